-- ACCOUNTING OF THE CODE: what becomes of each admitted number, the tallies and the clock. Assumes nothing.
use Rattle.std.specs.Prelude.{◌≡◌, ℕ, ◌+◌, ◌≤◌, ◌<◌}
use mathlib.Core.List.{List, [], ◌∷◌, Memᴰ}
use Rattle.units.specs.declared.Settings.{Settings}
use Rattle.rules.specs.Line.{fresh}
use Rattle.rules.specs.Step.{Call, answers}
use Rattle.rules.specs.History.{counted, last_instant}
use Rattle.rules.specs.Account.{ExactlyOne}
use Rattle.rules.specs.Printed.{tally_line}
use Rattle.room.specs.declared.Room.{Room}
use Rattle.room.specs.Held.{Sized}
use Rattle.scheduler_state.specs.declared.Scheduler.{Scheduler}
use Rattle.scheduler_answers.specs.Values.{tally_values}
use Rattle.scheduler.specs.Machine.{made}
use Rattle.scheduler_guarantees.specs.Lines.{Begun, begun_in, admissions_in, gone_in}
use Rattle.scheduler_guarantees.specs.Demands.{in_force, scheduler_by, lines_by}

-- Number k has started; was dropped, being just below the number that starts; waits, being above all that are gone.
abbrev pub HasStarted : (k : ℕ) → List (List ℕ) → Type 0
HasStarted k ls = (x : Begun) × Memᴰ x (begun_in ls) × (x.number ≡ k)

abbrev pub WasDropped : (k : ℕ) → List (List ℕ) → Type 0
WasDropped k ls = (x : Begun) × Memᴰ x (begun_in ls) × (k < x.number) × (x.number ≤ k + x.dropped)

abbrev pub IsWaiting : (k : ℕ) → List (List ℕ) → Type 0
IsWaiting k ls = gone_in ls < k

-- Every admitted number is at each moment exactly one of waiting, started, dropped.
abbrev pub OneFate : Type 0
OneFate =
    (settings : Settings) (lent : Room)
    → Sized lent
    → (cs : List Call) (k : ℕ)
    → 1 ≤ k
    → k ≤ admissions_in (lines_by settings lent cs)
    → ExactlyOne (HasStarted k (lines_by settings lent cs)) (WasDropped k (lines_by settings lent cs)) (IsWaiting k (lines_by settings lent cs))

-- The five tallies are the counts over the answers, and the clock is the instant of the last accepted call.
abbrev pub TalliesCount : Type 0
TalliesCount =
    (settings : Settings) (lent : Room)
    → Sized lent
    → (cs : List Call)
    → tally_values (scheduler_by settings lent cs).tallies ≡ tally_line (counted (answers (in_force settings) fresh cs))

abbrev pub ClockIsLast : Type 0
ClockIsLast =
    (settings : Settings) (lent : Room)
    → Sized lent
    → (cs : List Call)
    → (scheduler_by settings lent cs).clock.0 ≡ last_instant 0 cs (answers (in_force settings) fresh cs)

-- A refused call, whatever it is called on, returns scheduler and room as they were.
abbrev pub RefusedUnchanged : Type 0
RefusedUnchanged =
    (s : Scheduler) (r : Room) (c : Call) (n : ℕ) → (made s r c).values ≡ 82 ∷ n ∷ [] → ((made s r c).scheduler ≡ s) × ((made s r c).room ≡ r)
