-- The promises of the three calls: the exact value, and what it is by the rules; and that each leaves one possible result and one content of
-- the room. Assumes nothing.
use Rattle.std.specs.Prelude.{◌≡◌, List, ℕ}
use Rattle.std.proofs.Math.Option.{none}
use Rattle.units.specs.declared.Instant.{Instant}
use Rattle.units.specs.declared.Settings.{Settings}
use Rattle.rules.specs.Terms.{terms_of}
use Rattle.rules.specs.Step.{Call, advance}
use Rattle.rules.specs.Open as rules
use Rattle.room.specs.declared.Packet.{Packet}
use Rattle.room.specs.declared.Room.{Room}
use Rattle.room.specs.Room.{with_kept}
use Rattle.room.specs.Held.{Sized}
use Rattle.scheduler_state.specs.declared.Scheduler.{Scheduler}
use Rattle.scheduler_answers.specs.Answers.{Opened}
use Rattle.scheduler_answers.specs.Answers.{Arrived}
use Rattle.scheduler_answers.specs.Answers.{Advanced}
use Rattle.scheduler.specs.Calls.{open_of, arrive_of, arrive_room, advance_of}
use Rattle.scheduler_answers.specs.Values.{opening_number, admission_values, admission_numbers, advance_values, advance_numbers, handed}
use Rattle.scheduler.specs.Machine.{scheduler_after, room_after, FromOpening, terms_by, line_by, Alike}
use Rattle.scheduler.specs.Steps.{arrival_of, Steps}

-- Whatever room of the lent length is used from here on, it and the scheduler come from an opening, and stand for the rules' fresh line under
-- the settings that the rules put in force.
pub record Opens (settings : Settings) (x : Opened) : Type 0 where
  pub value : x ≡ open_of settings
  pub number : opening_number x.answer ≡ (rules.opening settings).number
  pub kept : (lent : Room) → Sized lent → FromOpening x.scheduler lent
  pub terms : (lent : Room) (z : Sized lent) → terms_by (kept lent z) ≡ terms_of (rules.opening settings).settings
  pub stands : (lent : Room) (z : Sized lent) → line_by (kept lent z) ≡ (rules.opening settings).line

-- `left` is the room at exit.
pub record Arrives (s : Scheduler) (r : Room) (p : Packet) (x : Arrived) (left : Room) : Type 0 where
  pub value : x ≡ arrive_of s r p
  pub room : left ≡ arrive_room s r p
  pub kept : FromOpening x.scheduler left
  pub steps : (o : FromOpening s r) → Steps o (arrival_of p) (admission_values x.answer) (admission_numbers x.answer) none x.scheduler left

-- An advance only reads the room.
pub record Advances (s : Scheduler) (r : Room) (at : Instant) (x : Advanced) : Type 0 where
  pub value : x ≡ advance_of s r at
  pub kept : FromOpening x.scheduler r
  pub steps :
      (o : FromOpening s r)
      → Steps o (advance at.0) (advance_values x.answer) (advance_numbers x.answer) (handed x.answer) x.scheduler r

-- Every list of calls from an opening has the premise.
abbrev pub EveryList : Type 0
EveryList =
    (settings : Settings) (lent : Room)
    → Sized lent
    → (cs : List Call)
    → FromOpening (scheduler_after (open_of settings).scheduler lent cs) (room_after (open_of settings).scheduler lent cs)

-- Whatever words a host keeps in the room, they and the calls leave each other alone.
abbrev pub MayKeep : Type 0
MayKeep = (s : Scheduler) (r : Room) (o : FromOpening s r) (k : ℕ) (ws : List ℕ) → Alike o s (with_kept r k ws)

-- Two results that a promise allows are equal.
abbrev pub OneOpening : Type 0
OneOpening = (settings : Settings) (x y : Opened) → Opens settings x → Opens settings y → x ≡ y

abbrev pub OneArrival : Type 0
OneArrival =
    (s : Scheduler) (r : Room) (p : Packet) (x y : Arrived) (left other : Room)
    → Arrives s r p x left
    → Arrives s r p y other
    → (x ≡ y) × (left ≡ other)

abbrev pub OneAdvance : Type 0
OneAdvance = (s : Scheduler) (r : Room) (at : Instant) (x y : Advanced) → Advances s r at x → Advances s r at y → x ≡ y
