-- The tally line behind the events' lines makes the text of the rules. Assumes nothing.
use Rattle.std.proofs.Common.{arith, rules}
use Rattle.text_lines.proofs.Tells.{tells_then, told_back}
use Rattle.run_events.specs.Tells.{events_text}
use Rattle.run_events.proofs.Traces.{trace_text_lem}
use Rattle.run_events.proofs.Most.{events-most}
use Rattle.run_events.proofs.tell_trace.Goals as goal

pub tell_tallies-requires : goal.tell_tallies-requires
tell_tallies-requires c =
    let most = events-most c.args.image.now c.open-opened.result.scheduler c.empty-room.result c.args.events in
    omega (arith, c.tell_events-then.ensures.told.told.place)

pub returns : goal.returns
returns c =
    let a = c.args in
    let lent = c.empty-room in
    let o = c.open-opened in
    let w = c.tell_events-then in
    let both = tells_then {xs = events_text a.image.now o.result.scheduler lent.result a.events} w.ensures.told c.tell_tallies.ensures in
    rw (trace_text_lem a.image.now a.settings a.events lent.result lent.ensures.sized o.result o.ensures w.result w.ensures.scheduler)
    (told_back both (search rules))
