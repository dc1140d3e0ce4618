-- What the arithmetic of an admission asks of the numbers. Assumes nothing.
use Rattle.std.specs.Prelude.{◌≤◌, ◌<◌}
use Rattle.units.specs.Limits.{admissions_most}
use Rattle.room.specs.declared.Packet.{Packet}
use Rattle.scheduler_state.specs.declared.Scheduler.{Scheduler}
use Rattle.scheduler_state.specs.Counts.{admissions_of}
use Rattle.scheduler_state.specs.Bounds.{times_most, Small}
use Rattle.scheduler_answers.specs.Packets.{time_of}

-- Of a packet that no test refuses.
pub record Admits (s : Scheduler) (p : Packet) : Type 0 where
  pub small : Small s
  pub numbers : admissions_of s.tallies < admissions_most
  pub time : (time_of s p).0 ≤ times_most
