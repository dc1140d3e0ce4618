-- A turn of the inner loop plays one event more; its line begins where the lines so far end. Assumes nothing.
use Rattle.std.proofs.Common.{◌≡◌, ◌+◌, ◌*◌, min, arith}
use native.Mathlib.Numerals.{unary_clauses}
use Rattle.block_header.proofs.Share.{share-most, share_whole}
use Rattle.run_events.proofs.Tells.{so_far_none, so_far_more}
use Rattle.run_events.proofs.Most.{events-most}
use Rattle.run_events.proofs.tell_events.Goals as goal

pub loop-block-init : goal.loop-block-init
loop-block-init c = simp unary_clauses (so_far_none _ _ _ _ c.requires.from_opening)

pub play-played-requires : goal.play-played-requires
play-played-requires c =
    let so = c.loop-i.invariant in
    let most = events-most c.args.image.now c.args.scheduler c.args.room.now (31 * c.loop-block.block + c.loop-i.i) in
    (so.reached.kept, omega (arith, so.told.told.place, c.requires.from_start, share-most c.args.events c.loop-block.block))

pub loop-i-preserved : goal.loop-i-preserved
loop-i-preserved c =
    let p = c.play-played in
    let l = c.loop-i in
    let k = 31 * c.loop-block.block + l.i in
    let next : 31 * c.loop-block.block + (l.i + 1) ≡ k + 1 = omega arith in
    rw next
    (so_far_more c.args.image.now c.args.scheduler c.args.room.now c.args.area.now k l.then l.room p.new.room l.area _
    c.event_in-event.result p.result _ l.invariant c.event_in-event.ensures p.ensures c.copied-then.ensures)

pub loop-block-preserved : goal.loop-block-preserved
loop-block-preserved c =
    let whole = share_whole c.args.events c.loop-block.block (omega arith) in
    let place : 31 * c.loop-block.block + c.loop-i.i ≡ min (31 * (c.loop-block.block + 1)) c.args.events = omega (arith, whole, c.count_in-i-end.ensures) in
    rw place at c.loop-i.invariant
