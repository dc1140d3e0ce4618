-- One event on the scheduler: its line told to the area, and what is left. Assumes nothing.
use Rattle.std.specs.Prelude.{◌≡◌}
use Rattle.rules.specs.Step.{Call}
use Rattle.room.specs.declared.Room.{Room}
use Rattle.scheduler_state.specs.declared.Scheduler.{Scheduler}
use Rattle.scheduler.specs.Machine.{made, FromOpening}
use Rattle.text.specs.Text.{values_text}
use Rattle.text_digits.specs.declared.Area.{Area}
use Rattle.text_lines.specs.Told.{Tells}

-- The area was `before` and is `after`; `then` is the scheduler from there on, and `left` the room at exit.
pub record Plays (before after : Area) (s : Scheduler) (r : Room) (c : Call) (then : Scheduler) (left : Room) : Type 0 where
  pub line : Tells before (values_text (made s r c).values) after
  pub scheduler : then ≡ (made s r c).scheduler
  pub room : left ≡ (made s r c).room
  pub kept : FromOpening then left
