-- THE DIFFERENCE QUEUE OF THE CODE holds what document 01 fixes. Assumes nothing.
use Rattle.std.specs.Prelude.{◌≡◌, List, ℕ, ◌+◌, ◌-◌, length}
use Rattle.units.specs.declared.Settings.{Settings}
use Rattle.rules.specs.Line.{Packet, Waiting, fresh, unmarked_of}
use Rattle.rules.specs.Delay.{Follows, extra_first, extra_next}
use Rattle.rules.specs.Step.{Call, after}
use Rattle.room.specs.declared.Room.{Room}
use Rattle.room.specs.Room.{number_at, difference_at}
use Rattle.room.specs.Held.{Sized}
use Rattle.scheduler_guarantees.specs.Demands.{in_force, scheduler_by, room_by}

-- The rank, among the unmarked, of a waiting packet with so many unmarked ones waiting ahead of it.
abbrev pub rank_behind : Settings → Room → List Call → (ahead : ℕ) → ℕ
rank_behind settings lent cs ahead = (scheduler_by settings lent cs).tallies.started.unmarked + ahead

-- v waits, and w is the next waiting unmarked packet behind it: the queue has w's number, and v's extra delay minus w's.
abbrev pub QueueHolds : Type 0
QueueHolds =
    (settings : Settings) (lent : Room)
    → Sized lent
    → (cs : List Call) (ahead : List Waiting) (v : Packet) (between : List Packet) (w : Packet)
    → Follows (in_force settings) (after (in_force settings) fresh cs).queue ahead v between w
    → (number_at (room_by settings lent cs) (rank_behind settings lent cs (length (unmarked_of ahead) + 1)) ≡ w.number)
    × (difference_at (room_by settings lent cs) (rank_behind settings lent cs (length (unmarked_of ahead) + 1))
    ≡ extra_first (in_force settings) (after (in_force settings) fresh cs) ahead v
    - extra_next (in_force settings) (after (in_force settings) fresh cs) ahead v between w)
