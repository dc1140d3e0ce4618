-- An arrival for a C host, from the scheduler's: what it leaves is kept, or nothing is changed. Assumes nothing.
use mathlib.Core.Path.{◌≡◌, refl, sym, ap, subst⁻¹, ◌∙◌}
use mathlib.Core.Bool.{Bool, true, false}
use mathlib.Core.List.{[], ◌∷◌}
use mathlib.Core.Option.{none}
use Prim.Native.Nat.{ℕ}
use native.Mathlib.Omega.{arith}
use lib.Dec.{eqb}
use borrow.Author.Tests.{eqb-false}
use Rattle.std.proofs.lemmas.Bool.{ne_eqb}
use Rattle.std.specs.Result.{is_ok}
use Rattle.std.specs.Prelude.{Result, Ok, Err}
use Rattle.refusals.specs.declared.Refusal.{Refusal}
use Rattle.refusals.specs.Numbers.{number}
use Rattle.refusals.proofs.Laws.{number_least}
use Rattle.room.specs.declared.Packet.{Packet}
use Rattle.room.specs.declared.Room.{Room}
use Rattle.scheduler_state.specs.declared.Scheduler.{Scheduler}
use Rattle.scheduler_state.specs.Pick.{pick}
use Rattle.scheduler_answers.specs.declared.Admitted.{Admitted}
use Rattle.scheduler_answers.specs.Answers.{Arrived}
use Rattle.scheduler_answers.specs.Values.{admission_values, admission_numbers}
use Rattle.scheduler.specs.Calls.{arrive_room}
use Rattle.scheduler.specs.Steps.{arrival_of, Steps}
use Rattle.scheduler.specs.Promises.{Arrives}
use Rattle.scheduler.proofs.Stepped.{arrival-steps}
use Rattle.scheduler_guarantees.proofs.Unchanged.{refused-unchanged}
use Rattle.scheduler_kept.specs.Words.{scheduler_in}
use Rattle.bilgethrum_values.specs.declared.HostPacket.{HostPacket}
use Rattle.bilgethrum_values.specs.declared.HostArrival.{HostArrival}
use Rattle.bilgethrum_values.specs.Host.{packet_from, host_arrival}
use Rattle.bilgethrum.specs.Promises.{OnLine, keeping, arrived, arrived_words, HostArrives}
use Rattle.bilgethrum.proofs.Kept.{keep_alike, steps_on}

-- An answer with a refusal number is a refusal.
refusal : (a : Result Admitted Refusal) → ((host_arrival a).refusal ≡ 0 → ⊥) → (n : ℕ) × (admission_values a ≡ 82 ∷ n ∷ [])
refusal (Ok (Admitted.Unmarked n e)) h = absurd (h refl)
refusal (Ok (Admitted.Marked n)) h = absurd (h refl)
refusal (Err r) h = (number r, refl)

-- The refusal number is 0 where the call is accepted.
told-accepted : (a : Result Admitted Refusal) → is_ok a ≡ eqb (host_arrival a).refusal 0
told-accepted (Ok (Admitted.Unmarked n e)) = refl
told-accepted (Ok (Admitted.Marked n)) = refl
told-accepted (Err r) = sym (ne_eqb (number r) 0 (λ e. omega (arith, number_least r)))

module _ (b : Room) (p : HostPacket) where
  abbrev s : Scheduler
  s = scheduler_in b

  abbrev q : Packet
  q = packet_from p

  abbrev given : HostArrival
  given = host_arrival (arrived b p).answer

  -- A refusal leaves the scheduler and the room as they were.
  unchanged : (given.refusal ≡ 0 → ⊥) → ((arrived b p).scheduler ≡ s) × (arrive_room s b q ≡ b)
  unchanged z = let n = refusal (arrived b p).answer z in refused-unchanged s b (arrival_of q) n.0 n.1

  -- The step by the rules, whether its refusal number is 0 or not.
  abbrev StepsTo : OnLine b → Room → Type 0
  StepsTo o left =
      Steps o (arrival_of q) (admission_values (arrived b p).answer) (admission_numbers (arrived b p).answer) none (scheduler_in left) left

  by-refusal : (o : OnLine b) (k : Bool) → eqb given.refusal 0 ≡ k → StepsTo o (pick k (keeping (arrived b p).scheduler (arrive_room s b q)) b)
  by-refusal o true e =
      let x = arrival-steps s b o q in
      steps_on x (keep_alike (arrived b p).scheduler (arrive_room s b q) x.next)
  by-refusal o false e =
      let same = unchanged (eqb-false _ _ e) in
      rw (same.0, same.1) at (arrival-steps s b o q)

  pub arrival_steps_on : (o : OnLine b) → StepsTo o (arrived_words b p)
  arrival_steps_on o = by-refusal o (eqb given.refusal 0) refl

  defined : (x : HostArrival) (left : Room) → OnLine b → x ≡ given → left ≡ arrived_words b p → HostArrives b p x left
  defined x left line value words =
      subst⁻¹ (λ (y : HostArrival). HostArrives b p y left) value
      (subst⁻¹ (λ (l : Room). HostArrives b p given l) words
      (record { value = refl; words = refl; kept = (arrival_steps_on line).next; steps = arrival_steps_on }))

  module _ (a : Arrived) (left : Room) (x : HostArrival) (line : OnLine b) (h : Arrives s b q a left) (e : x ≡ host_arrival a.answer) where
    value : x ≡ given
    value = e ∙ ap (λ (y : Arrived). host_arrival y.answer) h.value

    -- Where the call is refused, the room was left as it was.
    settled : (k : Bool) → eqb given.refusal 0 ≡ k → (x : Room) → pick k x (arrive_room s b q) ≡ pick k x b
    settled true i x = refl
    settled false i x = (unchanged (eqb-false _ _ i)).1

    pub host_arrives : (then : Room) → then ≡ pick (is_ok a.answer) (keeping a.scheduler left) left → HostArrives b p x then
    host_arrives then f =
        defined x then line value
        (rw (told-accepted a.answer, h.value, h.room) at f ∙ settled (eqb given.refusal 0) refl (keeping (arrived b p).scheduler (arrive_room s b q)))
