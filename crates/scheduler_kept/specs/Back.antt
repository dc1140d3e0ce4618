-- What is kept is given back. Assumes nothing.
use Rattle.std.specs.Prelude.{◌≡◌, ◌<◌}
use Rattle.room.specs.declared.Room.{Room}
use Rattle.room.specs.Room.{with_kept}
use Rattle.room.specs.Held.{Sized}
use Rattle.scheduler_state.specs.declared.Scheduler.{Scheduler}
use Rattle.scheduler_kept.specs.Words.{scheduler_words, scheduler_in}

-- Whatever stood in the room: a scheduler kept there is the one that is read there. (Its ticks per byte are 16 bits wide in the code.)
abbrev pub KeptBack : Type 0
KeptBack =
    (r : Room) (s : Scheduler) → Sized r → s.settings.ticks_per_byte < 65536 → scheduler_in (with_kept r 0 (scheduler_words s)) ≡ s
