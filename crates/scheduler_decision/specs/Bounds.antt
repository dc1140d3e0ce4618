-- What the arithmetic of a start asks of the numbers. Assumes nothing.
use Rattle.std.specs.Prelude.{◌≡◌, true, false, ◌+◌, ◌≤◌, ◌<◌}
use Rattle.units.specs.declared.Instant.{Instant}
use Rattle.units.specs.Limits.{instant_most, admissions_most}
use Rattle.room.specs.declared.Packet.{Packet}
use Rattle.room.specs.declared.Room.{Room}
use Rattle.scheduler_state.specs.declared.Scheduler.{Scheduler}
use Rattle.scheduler_state.specs.Counts.{gone_of}
use Rattle.scheduler_state.specs.Bounds.{times_most, Small}
use Rattle.scheduler_answers.specs.Packets.{time_of}
use Rattle.scheduler_decision.specs.Decide.{sent_of, first_number, first_packet, ahead_count}

-- Of a start of the packet at the head.
pub record HeadStarts (s : Scheduler) (head : Packet) (due : Instant) : Type 0 where
  pub small : Small s
  pub waits : gone_of s.tallies < admissions_most
  pub soon : due.0 ≤ instant_most
  pub time : (time_of s head).0 ≤ times_most

-- Of a start of the first waiting unmarked packet.
pub record FirstStarts (s : Scheduler) (r : Room) (due : Instant) : Type 0 where
  pub small : Small s
  pub waits : s.tallies.started.unmarked < admissions_most
  pub ahead : gone_of s.tallies < first_number s r
  pub dropped : s.tallies.dropped + ahead_count s r ≤ admissions_most
  pub soon : due.0 ≤ instant_most
  pub time : (time_of s (first_packet s r)).0 ≤ times_most

-- Of a decision, whichever of the two it starts.
pub record Decides (s : Scheduler) (r : Room) (head : Packet) (due : Instant) : Type 0 where
  pub small : Small s
  pub time : (time_of s head).0 ≤ times_most
  pub sent : sent_of s head ≡ true → HeadStarts s head due
  pub first : sent_of s head ≡ false → FirstStarts s r due
