-- Each marking's admission, in the room that `put` leaves.
use Rattle.scheduler_admission.specs.Admit.{admit_of, admit_room}
use Rattle.scheduler_admission.proofs.admit.Goals as goal

pub returns-in-Unmarked-clause-value : goal.returns-in-Unmarked-clause-value
unfolding admit_of
returns-in-Unmarked-clause-value c = simp (c.in-Unmarked.is, c.admit_unmarked.ensures.value)

pub returns-in-Unmarked-clause-left : goal.returns-in-Unmarked-clause-left
unfolding admit_room
returns-in-Unmarked-clause-left c =
    simp (c.in-Unmarked.is, c.admit_unmarked.ensures.left, c.put.ensures, c.admissions-rank.ensures)

pub returns-in-Marked-clause-value : goal.returns-in-Marked-clause-value
unfolding admit_of
returns-in-Marked-clause-value c = simp (c.in-Marked.is, c.admit_marked.ensures)

pub returns-in-Marked-clause-left : goal.returns-in-Marked-clause-left
unfolding admit_room
returns-in-Marked-clause-left c = simp (c.in-Marked.is, c.put.ensures, c.admissions-rank.ensures)
