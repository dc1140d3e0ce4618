-- An advance for a C host, from the scheduler's: what it leaves is kept, or nothing is changed. Assumes nothing.
use mathlib.Core.Path.{◌≡◌, refl, sym, ap, subst⁻¹, ◌∙◌}
use mathlib.Core.Bool.{Bool, true, false}
use mathlib.Core.List.{[], ◌∷◌}
use Prim.Native.Nat.{ℕ}
use native.Mathlib.Omega.{arith}
use lib.Dec.{eqb}
use borrow.Author.Tests.{eqb-false}
use Rattle.std.proofs.lemmas.Bool.{ne_eqb}
use Rattle.std.specs.Result.{is_ok}
use Rattle.std.specs.Prelude.{Option, Some, None, Result, Ok, Err}
use Rattle.refusals.specs.declared.Refusal.{Refusal}
use Rattle.refusals.specs.Numbers.{number}
use Rattle.refusals.proofs.Laws.{number_least}
use Rattle.units.specs.declared.Instant.{Instant}
use Rattle.rules.specs.Step.{advance}
use Rattle.room.specs.declared.Room.{Room}
use Rattle.scheduler_state.specs.declared.Scheduler.{Scheduler}
use Rattle.scheduler_state.specs.Pick.{pick}
use Rattle.scheduler_answers.specs.declared.Start.{Start}
use Rattle.scheduler_answers.specs.Answers.{Advanced}
use Rattle.scheduler_answers.specs.Values.{advance_values, advance_numbers, handed}
use Rattle.scheduler.specs.Steps.{Steps}
use Rattle.scheduler.specs.Promises.{Advances}
use Rattle.scheduler.proofs.Stepped.{advance-steps}
use Rattle.scheduler_guarantees.proofs.Unchanged.{refused-unchanged}
use Rattle.scheduler_kept.specs.Words.{scheduler_in}
use Rattle.bilgethrum_values.specs.declared.HostDecision.{HostDecision}
use Rattle.bilgethrum_values.specs.Host.{host_decision}
use Rattle.bilgethrum.specs.Promises.{OnLine, keeping, advanced, advanced_words, HostAdvances}
use Rattle.bilgethrum.proofs.Kept.{keep_alike, steps_on}

-- An answer with a refusal number is a refusal.
refusal : (a : Result (Option Start) Refusal) → ((host_decision a).refusal ≡ 0 → ⊥) → (n : ℕ) × (advance_values a ≡ 82 ∷ n ∷ [])
refusal (Ok (Some x)) h = absurd (h refl)
refusal (Ok None) h = absurd (h refl)
refusal (Err r) h = (number r, refl)

-- The refusal number is 0 where the call is accepted.
told-accepted : (a : Result (Option Start) Refusal) → is_ok a ≡ eqb (host_decision a).refusal 0
told-accepted (Ok (Some x)) = refl
told-accepted (Ok None) = refl
told-accepted (Err r) = sym (ne_eqb (number r) 0 (λ e. omega (arith, number_least r)))

module _ (b : Room) (t : ℕ) where
  abbrev s : Scheduler
  s = scheduler_in b

  abbrev at : Instant
  at = record { 0 = t }

  abbrev given : HostDecision
  given = host_decision (advanced b t).answer

  -- A refusal leaves the scheduler as it was.
  unchanged : (given.refusal ≡ 0 → ⊥) → (advanced b t).scheduler ≡ s
  unchanged z = let n = refusal (advanced b t).answer z in (refused-unchanged s b (advance t) n.0 n.1).0

  -- The step by the rules, whether its refusal number is 0 or not.
  abbrev StepsTo : OnLine b → Room → Type 0
  StepsTo o left =
      Steps o (advance t) (advance_values (advanced b t).answer) (advance_numbers (advanced b t).answer) (handed (advanced b t).answer)
      (scheduler_in left) left

  by-refusal : (o : OnLine b) (k : Bool) → eqb given.refusal 0 ≡ k → StepsTo o (pick k (keeping (advanced b t).scheduler b) b)
  by-refusal o true e = let x = advance-steps s b o t in steps_on x (keep_alike (advanced b t).scheduler b x.next)
  by-refusal o false e = rw (unchanged (eqb-false _ _ e)) at (advance-steps s b o t)

  pub advance_steps_on : (o : OnLine b) → StepsTo o (advanced_words b t)
  advance_steps_on o = by-refusal o (eqb given.refusal 0) refl

  defined : (x : HostDecision) (left : Room) → OnLine b → x ≡ given → left ≡ advanced_words b t → HostAdvances b t x left
  defined x left line value words =
      subst⁻¹ (λ (y : HostDecision). HostAdvances b t y left) value
      (subst⁻¹ (λ (l : Room). HostAdvances b t given l) words
      (record { value = refl; words = refl; kept = (advance_steps_on line).next; steps = advance_steps_on }))

  module _ (a : Advanced) (x : HostDecision) (line : OnLine b) (h : Advances s b at a) (e : x ≡ host_decision a.answer) where
    value : x ≡ given
    value = e ∙ ap (λ (y : Advanced). host_decision y.answer) h.value

    pub host_advances : (then : Room) → then ≡ pick (is_ok a.answer) (keeping a.scheduler b) b → HostAdvances b t x then
    host_advances then f = defined x then line value (rw (told-accepted a.answer, h.value) at f)
