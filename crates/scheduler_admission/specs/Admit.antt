-- What an admission gives, and what it leaves in the room. Assumes nothing.
use Rattle.std.specs.Prelude.{◌+◌, ◌-◌, Ok}
use Rattle.units.specs.declared.Ticks.{Ticks}
use Rattle.units.specs.declared.Instant.{Instant}
use Rattle.units.specs.declared.Marking.TheVariants.{Unmarked}
use Rattle.room.specs.declared.Packet.{Packet}
use Rattle.room.specs.declared.Room.{Room}
use Rattle.room.specs.Room.{with_packet, with_difference}
use Rattle.scheduler_state.specs.declared.Scheduler.{Scheduler}
use Rattle.scheduler_state.specs.Pick.{by_marking}
use Rattle.scheduler_state.specs.Counts.{admissions_of, waiting_of}
use Rattle.scheduler_state.specs.Delays.{own_of}
use Rattle.scheduler_admission.specs.Admitted.{admitted_unmarked, admitted_marked}
use Rattle.scheduler_answers.specs.declared.Admitted.{Admitted}
use Rattle.scheduler_answers.specs.Answers.{Arrived}
use Rattle.scheduler_answers.specs.Packets.{time_of}

-- The extra delay of a new unmarked packet.
abbrev pub new_delay : Scheduler → (at : Instant) → Ticks
new_delay s at = own_of s.line s.extra (waiting_of Unmarked s.tallies) at

-- An unmarked packet is admitted: its number and its extra delay.
abbrev pub admit_unmarked : Scheduler → Packet → Arrived
admit_unmarked s p =
    record {
      answer = Ok (Admitted.Unmarked (admissions_of s.tallies + 1) (new_delay s p.arrival));
      scheduler = admitted_unmarked s (time_of s p) (new_delay s p.arrival) p.arrival;
    }

-- A marked packet is admitted: its number.
abbrev pub admit_marked : Scheduler → Packet → Arrived
admit_marked s p =
    record { answer = Ok (Admitted.Marked (admissions_of s.tallies + 1)); scheduler = admitted_marked s p.arrival }

-- An admission, by the marking.
unfoldable pub admit_of : Scheduler → Packet → Arrived
admit_of s p = by_marking p.marking (admit_unmarked s p) (admit_marked s p)

-- The room with an unmarked packet entered in the difference queue.
unfoldable pub admit_entry : Scheduler → Room → Packet → Room
admit_entry s r p =
    with_difference r s.tallies.admitted.unmarked (admissions_of s.tallies + 1) (s.extra.last.0 - (new_delay s p.arrival).0)

-- The room with the packet in it; an unmarked one is in the difference queue too.
unfoldable pub admit_room : Scheduler → Room → Packet → Room
admit_room s r p =
    by_marking p.marking (admit_entry s (with_packet r (admissions_of s.tallies) p) p) (with_packet r (admissions_of s.tallies) p)
