-- An event as the call that it is. Assumes nothing.
use Rattle.units.specs.declared.Marking.TheVariants as marking
use Rattle.rules.specs.Step.{Call, arrive, advance}
use Rattle.scheduler.specs.Steps.{arrival_of}
use Rattle.block_record.specs.declared.Event.{Event}
use Rattle.block_record.specs.declared.Event.TheVariants.{Unmarked, Marked, Advance}
use Rattle.run_events.specs.declared.Coming.{Coming}

abbrev pub call_of : Event → Call
call_of (Unmarked at length place) = arrive marking.Unmarked length.0 place at.0
call_of (Marked at length place) = arrive marking.Marked length.0 place at.0
call_of (Advance at) = advance at.0

abbrev pub coming_call : Coming → Call
coming_call (Coming.Arrival p) = arrival_of p
coming_call (Coming.Advance at) = advance at.0
