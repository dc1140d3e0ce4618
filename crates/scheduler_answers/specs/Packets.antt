-- Packets as the calls have them: the one that arrives, the one at the head, and the transmission time of any. Assumes nothing.
use Rattle.std.specs.Prelude.{ℕ}
use Rattle.units.specs.declared.Bytes.{Bytes}
use Rattle.units.specs.declared.Ticks.{Ticks}
use Rattle.units.specs.declared.Instant.{Instant}
use Rattle.units.specs.declared.Marking.{Marking}
use Rattle.units.specs.Time.{transmission_time}
use Rattle.room.specs.declared.Packet.{Packet}
use Rattle.room.specs.declared.Room.{Room}
use Rattle.room.specs.Room.{packet_at}
use Rattle.scheduler_state.specs.declared.Scheduler.{Scheduler}
use Rattle.scheduler_state.specs.Counts.{gone_of}

-- The packet that arrives.
abbrev pub packet_of : Marking → Bytes → (place : ℕ) → (at : Instant) → Packet
packet_of μ len place at = record { marking = μ; length = len; place = place; arrival = at }

-- The packet at the head, if one waits.
abbrev pub head_of : Scheduler → Room → Packet
head_of s r = packet_at r (gone_of s.tallies)

-- The transmission time of a packet.
abbrev pub time_of : Scheduler → Packet → Ticks
time_of s p = record { 0 = transmission_time s.settings p.length.0 }
