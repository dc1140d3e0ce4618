-- Scheduler and room stay what the calls since an opening made them.
use Rattle.scheduler.specs.Machine.{FromOpening}
use Rattle.case_scheduler.proofs.play.Given as goal

abbrev pub invariant-loop-call : goal.invariant-loop-call
invariant-loop-call g l =
    (goal.iterator-loop-call g).can_next l.call-iterator
    × (goal.iterator-loop-call g).is_finite l.call-iterator
    × FromOpening l.played.scheduler l.played.room
