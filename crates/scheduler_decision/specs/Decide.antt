-- What a decision gives: the packet at the head starts, or the first waiting unmarked one. Assumes nothing.
use Rattle.std.specs.Prelude.{Bool, false, ℕ, ◌+◌, ◌-◌, Some, Ok}
use Rattle.units.specs.declared.Ticks.{Ticks}
use Rattle.units.specs.declared.Instant.{Instant}
use Rattle.units.specs.declared.Marking.TheVariants.{Unmarked}
use Rattle.room.specs.declared.Packet.{Packet}
use Rattle.room.specs.declared.Room.{Room}
use Rattle.room.specs.Room.{packet_at, number_at, difference_at}
use Rattle.scheduler_state.specs.declared.Scheduler.{Scheduler}
use Rattle.scheduler_state.specs.Pick.{pick, by_marking}
use Rattle.scheduler_state.specs.Counts.{gone_of, waiting_of}
use Rattle.scheduler_state.specs.Delays.{fits_of}
use Rattle.scheduler_decision.specs.Started.{started_marked, started_unmarked}
use Rattle.scheduler_answers.specs.Answers.{Advanced}
use Rattle.scheduler_answers.specs.Packets.{time_of}

-- A marked packet at the head starts if it fits.
abbrev pub sent_of : Scheduler → (head : Packet) → Bool
sent_of s head = by_marking head.marking false (fits_of s.settings s.extra (waiting_of Unmarked s.tallies) (time_of s head))

-- The marked packet at the head starts: nothing is dropped, and its extra delay is 0.
unfoldable pub start_head : Scheduler → (head : Packet) → (due at : Instant) → Advanced
start_head s head due at =
    record {
      answer =
          Ok (Some (record { number = gone_of s.tallies + 1; at = due; extra = record { 0 = 0 }; dropped = 0; packet = head }));
      scheduler = started_marked s due (time_of s head) at;
    }

-- The number of the first waiting unmarked packet, that packet, and how many stand ahead of it.
abbrev pub first_number : Scheduler → Room → ℕ
first_number s r = number_at r s.tallies.started.unmarked

abbrev pub first_packet : Scheduler → Room → Packet
first_packet s r = packet_at r (first_number s r - 1)

abbrev pub ahead_count : Scheduler → Room → ℕ
ahead_count s r = first_number s r - 1 - gone_of s.tallies

-- How much less the extra delay of the next one is.
abbrev pub next_less : Scheduler → Room → Ticks
next_less s r = record { 0 = difference_at r (s.tallies.started.unmarked + 1) }

-- The first waiting unmarked packet starts, and those ahead of it are dropped.
unfoldable pub start_first : Scheduler → Room → (due at : Instant) → Advanced
start_first s r due at =
    record {
      answer =
          Ok
          (Some
          (record { number = first_number s r; at = due; extra = s.extra.first; dropped = ahead_count s r; packet = first_packet s r }));
      scheduler = started_unmarked s due (time_of s (first_packet s r)) (next_less s r) (ahead_count s r) at;
    }

-- The decision dated at the due instant, with the clock at `at`.
unfoldable pub decide_of : Scheduler → Room → (head : Packet) → (due at : Instant) → Advanced
decide_of s r head due at = pick (sent_of s head) (start_head s head due at) (start_first s r due at)
