-- The entry is the one that the definition enters.
use Rattle.scheduler_admission.specs.Admit.{admit_entry}
use Rattle.scheduler_admission.proofs.admit_unmarked.Goals as goal

pub returns-clause-left : goal.returns-clause-left
unfolding admit_entry
returns-clause-left c =
    simp (c.enter.ensures, c.difference-less.ensures, c.own_delay-own.ensures, c.waiting-waiting.ensures, c.admissions-number.ensures)
