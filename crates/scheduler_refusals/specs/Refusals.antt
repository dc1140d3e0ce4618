-- The refusals of an arrival and of an advance, in document 01's order. Assumes nothing.
use Rattle.std.specs.Prelude.{not, List, [], ◌∷◌, leb, ltb}
use Rattle.refusals.specs.declared.Refusal.{Refusal}
use Rattle.refusals.specs.First.{Test}
use Rattle.units.specs.declared.Bytes.{Bytes}
use Rattle.units.specs.declared.Instant.{Instant}
use Rattle.units.specs.declared.Marking.{Marking}
use Rattle.units.specs.Limits.{length_in_range, instant_most, waiting_most, admissions_most}
use Rattle.rules.specs.Terms.{terms_of}
use Rattle.rules.specs.Step.{outlasts}
use Rattle.scheduler_state.specs.declared.Scheduler.{Scheduler}
use Rattle.scheduler_state.specs.Counts.{admissions_of, waiting_of}
use Rattle.scheduler_refusals.specs.Due.{overdue_of}

-- Refusals 1 to 7.
abbrev pub arrival_tests : Scheduler → (arrival : Instant) → Marking → Bytes → (at : Instant) → List Test
arrival_tests s arrival μ len at =
    record { refusal = Refusal.Length; holds = not (length_in_range len.0) }
    ∷ record { refusal = Refusal.Instant; holds = ltb instant_most at.0 }
    ∷ record { refusal = Refusal.BeforeClock; holds = ltb at.0 s.clock.0 }
    ∷ record { refusal = Refusal.AboveAlpha; holds = outlasts (terms_of s.settings) μ len.0 }
    ∷ record { refusal = Refusal.Overdue; holds = overdue_of s arrival at }
    ∷ record { refusal = Refusal.RoomFull; holds = leb waiting_most (waiting_of μ s.tallies) }
    ∷ record { refusal = Refusal.NumbersUsed; holds = leb admissions_most (admissions_of s.tallies) }
    ∷ []

-- Refusals 2 and 3.
abbrev pub advance_tests : (clock at : Instant) → List Test
advance_tests clock at =
    record { refusal = Refusal.Instant; holds = ltb instant_most at.0 } ∷ record { refusal = Refusal.BeforeClock; holds = ltb at.0 clock.0 } ∷ []
