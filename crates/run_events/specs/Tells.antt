-- Events played one after the other: what the scheduler and its room have come to, and the text so far. Assumes nothing.
use Rattle.std.specs.Prelude.{◌≡◌, List, ℕ}
use Rattle.room.specs.declared.Room.{Room}
use Rattle.scheduler_state.specs.declared.Scheduler.{Scheduler}
use Rattle.scheduler.specs.Machine.{scheduler_after, room_after, values_by, FromOpening}
use Rattle.text_digits.specs.declared.Area.{Area}
use Rattle.text_lines.specs.Told as text
use Rattle.text.specs.Text.{lines_text}
use Rattle.run_events.specs.Trace.{calls_of}

-- The lines of the first k events, from the scheduler s over the room r.
abbrev pub events_text : List ℕ → Scheduler → Room → (k : ℕ) → List ℕ
events_text image s r k = lines_text (values_by s r (calls_of image k))

-- After the first k events.
pub record Reached (image : List ℕ) (s : Scheduler) (r : Room) (k : ℕ) (then : Scheduler) (left : Room) : Type 0 where
  pub scheduler : then ≡ scheduler_after s r (calls_of image k)
  pub room : left ≡ room_after s r (calls_of image k)
  pub kept : FromOpening then left

-- The events' text was told to the area, and the scheduler has come to `then`.
pub record Tells (image : List ℕ) (k : ℕ) (s : Scheduler) (r : Room) (before after : Area) (then : Scheduler) : Type 0 where
  pub told : text.Tells before (events_text image s r k) after
  pub scheduler : then ≡ scheduler_after s r (calls_of image k)
