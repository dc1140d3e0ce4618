-- The marker stays what the calls since an opening made it.
use Rattle.marker.specs.Machine.{FromOpening}
use Rattle.case_marker.proofs.play.Given as goal

abbrev pub invariant-loop-flow : goal.invariant-loop-flow
invariant-loop-flow g l = FromOpening l.marker
