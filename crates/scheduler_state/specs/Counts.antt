-- What the five tallies tell: how many were admitted, how many are gone, how many of each marking wait. Assumes nothing.
use Rattle.std.specs.Prelude.{Bool, not, ℕ, ◌+◌, ◌-◌, ◌≤◌, eqb}
use Rattle.units.specs.declared.Marking.{Marking}
use Rattle.units.specs.declared.Marking.TheVariants.{Unmarked, Marked}
use Rattle.units.specs.Limits.{admissions_most}
use Rattle.scheduler_state.specs.declared.Tallies.{Tallies}

-- Admitted since opening.
abbrev pub admissions_of : Tallies → ℕ
admissions_of t = t.admitted.unmarked + t.admitted.marked

-- Started or dropped.
abbrev pub gone_of : Tallies → ℕ
gone_of t = t.started.unmarked + t.started.marked + t.dropped

-- Admitted and neither started nor dropped.
abbrev pub waiting_of : Marking → Tallies → ℕ
waiting_of Unmarked t = t.admitted.unmarked - t.started.unmarked
waiting_of Marked t = t.admitted.marked - (t.started.marked + t.dropped)

-- A packet waits.
abbrev pub waits_of : Tallies → Bool
waits_of t = not (eqb (gone_of t) (admissions_of t))

-- No packet starts or is dropped that was not admitted, and the numbers suffice.
pub record Counted (t : Tallies) : Type 0 where
  pub unmarked : t.started.unmarked ≤ t.admitted.unmarked
  pub marked : t.started.marked + t.dropped ≤ t.admitted.marked
  pub all : t.admitted.unmarked + t.admitted.marked ≤ admissions_most
