-- The due instant, and whether a decision is due before another. Assumes nothing.
use Rattle.std.specs.Prelude.{Bool, ◌&&◌, max, ltb}
use Rattle.units.specs.declared.Instant.{Instant}
use Rattle.scheduler_state.specs.declared.Line.{Line}
use Rattle.scheduler_state.specs.declared.Scheduler.{Scheduler}
use Rattle.scheduler_state.specs.Counts.{waits_of}

-- The later of the instant the line falls free and the arrival of the packet at the head.
abbrev pub due_of : Line → (arrival : Instant) → Instant
due_of line arrival = record { 0 = max line.free.0 arrival.0 }

-- A decision is due strictly before this instant; `arrival` is that of the packet at the head, if one waits.
abbrev pub overdue_of : Scheduler → (arrival at : Instant) → Bool
overdue_of s arrival at = waits_of s.tallies && ltb (due_of s.line arrival).0 at.0
