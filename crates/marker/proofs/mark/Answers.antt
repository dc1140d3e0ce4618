-- Refused, paid for or marked, by the law of each.
use Rattle.std.proofs.Common.{arith, rules, ◌≡◌, Err}
use Rattle.marker.specs.Calls.{call_of}
use Rattle.marker.proofs.Public.{mark_looks, mark_refuses, mark_pays, mark_marks}
use Rattle.marker.proofs.mark.Goals as goal

pub returns-in_err-judge_packet : goal.returns-in_err-judge_packet
returns-in_err-judge_packet c =
    let e : c.from_residual.result ≡ Err c.in_err-judge_packet.field-0.0 = search rules in
    rw e (mark_refuses _ _ c.requires _ c.judge_packet.ensures _ c.in_err-judge_packet.was)

pub level_at-level-requires : goal.level_at-level-requires
level_at-level-requires c =
    let call = call_of c.args.flow c.args.length.0 c.args.at.0 in
    mark_looks _ call c.requires _ c.judge_packet.ensures c.in_ok-judge_packet.was

pub returns-then-price-level : goal.returns-then-price-level
returns-then-price-level c = mark_pays _ _ c.requires _ c.judge_packet.ensures c.in_ok-judge_packet.was _ c.level_at-level.ensures _ (omega (arith, c.if-price-level.true)) c.hold.ensures

pub hold-requires-2 : goal.hold-requires-2
hold-requires-2 c =
    let call = call_of c.args.flow c.args.length.0 c.args.at.0 in
    omega (arith, (mark_looks _ call c.requires _ c.judge_packet.ensures c.in_ok-judge_packet.was).below)

pub returns : goal.returns
returns c = mark_marks _ _ c.requires _ c.judge_packet.ensures c.in_ok-judge_packet.was _ c.level_at-level.ensures _ c.if-price-level.false c.hold-2.ensures
