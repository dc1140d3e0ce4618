-- From any list of calls on, the code follows the rules. Assumes nothing.
use mathlib.Core.Path.{◌≡◌, refl, sym, ap, subst, ◌∙◌}
use mathlib.Core.List.{List, [], ◌∷◌, ◌++◌, map}
use Prim.Native.Nat.{ℕ, ◌+◌}
use native.Mathlib.Omega.{arith}
use lib.ListN.{length}
use Rattle.units.specs.declared.Settings.{Settings}
use Rattle.rules.specs.Terms.{Terms, terms_of}
use Rattle.rules.specs.Line.{Tallies, Line, fresh}
use Rattle.rules.specs.Step.{Call, step, after, answers}
use Rattle.rules.specs.Printed.{line_of}
use Rattle.rules.specs.Open as rules
use Rattle.rules.proofs.Counted.{tallies-count}
use Rattle.room.specs.declared.Room.{Room}
use Rattle.room.specs.Held.{Sized}
use Rattle.scheduler_state.specs.Counts.{admissions_of, gone_of}
use Rattle.scheduler.specs.Machine.{made, values_by}
use Rattle.scheduler.specs.Represents.{Represents}
use Rattle.scheduler.specs.Agreement.{Faithful}
use Rattle.scheduler.proofs.Tests.{ranks}
use Rattle.scheduler.proofs.Follows.{Follows, FitOn, follows, fit-from, fit-now, all-faithful}
use Rattle.scheduler_guarantees.specs.Lines.{admissions_in, gone_in}
use Rattle.scheduler_guarantees.specs.Demands.{scheduler_by, room_by, lines_by, waiting_in}
use Rattle.scheduler_guarantees.proofs.Told.{admissions-told, gone-told}

after_more : (σ : Terms) (l : Line) (cs more : List Call) → after σ l (cs ++ more) ≡ after σ (after σ l cs) more
unfolding after
after_more σ l [] more = refl
after_more σ l (c ∷ cs) more = after_more σ (step σ l c).line cs more

abbrev head : List (List ℕ) → List ℕ
head [] = []
head (l ∷ ls) = l

abbrev tail : List (List ℕ) → List (List ℕ)
tail [] = []
tail (l ∷ ls) = ls

module _ (settings : Settings) (lent : Room) (z : Sized lent) (cs : List Call) where
  abbrev w : Settings
  w = (rules.opening settings).settings

  abbrev line : Line
  line = after (terms_of w) fresh cs

  faithful : Faithful settings lent cs
  faithful = all-faithful settings lent z cs

  fit_on : FitOn w line
  fit_on more = rw (← (after_more (terms_of w) fresh cs more)) (fit-from settings (cs ++ more))

  pub onward : (then : List Call) → Follows w (scheduler_by settings lent cs) (room_by settings lent cs) line then
  onward then =
      let e : w ≡ (scheduler_by settings lent cs).settings = sym faithful.in_force in
      subst (λ (v : Settings). Follows v (scheduler_by settings lent cs) (room_by settings lent cs) line then) faithful.in_force
      (follows then (scheduler_by settings lent cs) (room_by settings lent cs) line
      (subst (λ (v : Settings). Represents (terms_of v) (scheduler_by settings lent cs) (room_by settings lent cs) line) e faithful.represents)
      (subst (λ (v : Settings). FitOn v line) e fit_on))

  -- One call, and the calls behind it.
  pub call_line : (c : Call) → (made (scheduler_by settings lent cs) (room_by settings lent cs) c).values ≡ line_of (step (terms_of w) line c).answer
  unfolding values_by answers
  call_line c = ap head (onward (c ∷ [])).values

  pub later-lines : (c : Call) (then : List Call)
      → values_by (made (scheduler_by settings lent cs) (room_by settings lent cs) c).scheduler
      (made (scheduler_by settings lent cs) (room_by settings lent cs) c).room then
      ≡ map line_of (answers (terms_of w) (step (terms_of w) line c).line then)
  unfolding values_by answers
  later-lines c then = ap tail (onward (c ∷ then)).values

  pub all-ranks : gone_of (scheduler_by settings lent cs).tallies + length line.queue ≡ admissions_of (scheduler_by settings lent cs).tallies
  all-ranks = ranks (terms_of w) (scheduler_by settings lent cs) (room_by settings lent cs) line faithful.represents (fit-now w line fit_on)

  -- What the lines say was admitted, and is gone, is what the tallies say.
  pub admissions-read : admissions_in (lines_by settings lent cs) ≡ admissions_of (scheduler_by settings lent cs).tallies
  admissions-read =
      ap admissions_in faithful.given
      ∙ (admissions-told (answers (terms_of w) fresh cs)
      ∙ (ap (λ (k : Tallies). k.unmarked_admitted + k.marked_admitted) (sym (tallies-count (terms_of w) cs))
      ∙ omega (arith, faithful.represents.tallies)))

  pub gone-read : gone_in (lines_by settings lent cs) ≡ gone_of (scheduler_by settings lent cs).tallies
  gone-read =
      ap gone_in faithful.given
      ∙ (gone-told (answers (terms_of w) fresh cs)
      ∙ (ap (λ (k : Tallies). k.unmarked_started + k.marked_started + k.marked_dropped) (sym (tallies-count (terms_of w) cs))
      ∙ omega (arith, faithful.represents.tallies)))

  pub count-is : waiting_in (lines_by settings lent cs) ≡ length line.queue
  count-is = omega (arith, all-ranks, admissions-read, gone-read)
