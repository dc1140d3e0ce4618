-- A refused call changes nothing. Assumes nothing.
use mathlib.Core.Path.{◌≡◌, refl, ap}
use mathlib.Core.Bool.{Bool, true, false}
use mathlib.Core.List.{List, [], ◌∷◌}
use mathlib.Core.Option.{Option, none, some}
use Prim.Native.Nat.{ℕ}
use native.Mathlib.Omega.{arith}
use lib.Dec.{ltb}
use lib.ListN.{get_or}
use Rattle.refusals.specs.declared.Refusal.{Refusal}
use Rattle.refusals.specs.First.{first_refusal}
use Rattle.units.specs.declared.Instant.{Instant}
use Rattle.units.specs.declared.Marking.{Marking}
use Rattle.units.specs.declared.Marking.TheVariants.{Unmarked, Marked}
use Rattle.rules.specs.Step.{arrive, advance}
use Rattle.room.specs.declared.Packet.{Packet}
use Rattle.room.specs.declared.Room.{Room}
use Rattle.scheduler_state.specs.declared.Scheduler.{Scheduler}
use Rattle.scheduler_state.specs.Counts.{waits_of}
use Rattle.scheduler_state.specs.Pick.{pick}
use Rattle.scheduler_refusals.specs.Due.{due_of}
use Rattle.scheduler_refusals.specs.Refusals.{advance_tests}
use Rattle.scheduler_state.specs.Pick.{by_marking}
use Rattle.scheduler_answers.specs.Packets.{head_of, packet_of}
use Rattle.scheduler_admission.specs.Admit.{admit_unmarked, admit_marked, admit_of}
use Rattle.scheduler_decision.specs.Decide.{sent_of, start_head, start_first, decide_of}
use Rattle.scheduler.specs.Calls.{arrival_refusal, arriving, arrive_of, arriving_room, arrive_room, nothing_at, waiting, advancing, advance_of}
use Rattle.scheduler_answers.specs.Values.{admission_values, advance_values}
use Rattle.scheduler.specs.Machine.{bytes, instant}
use Rattle.scheduler_guarantees.specs.Account.{RefusedUnchanged}

-- No line of an admission, of a start or of nothing due begins with R.
admitted_not : (s : Scheduler) (p : Packet) (μ : Marking) (n : ℕ) → admission_values (by_marking μ (admit_unmarked s p) (admit_marked s p)).answer ≡ 82 ∷ n ∷ [] → ⊥
admitted_not s p Unmarked n h = let y : ◌≡◌ {A = ℕ} 65 82 = ap (λ (l : List ℕ). get_or l 0 0) h in omega arith
admitted_not s p Marked n h = let y : ◌≡◌ {A = ℕ} 77 82 = ap (λ (l : List ℕ). get_or l 0 0) h in omega arith

module _ (s : Scheduler) (r : Room) (n : ℕ) where
  arrived : (o : Option Refusal) (p : Packet) → admission_values (arriving o s p).answer ≡ 82 ∷ n ∷ []
      → ((arriving o s p).scheduler ≡ s) × (arriving_room o s r p ≡ r)
  unfolding admit_of
  arrived none p h = absurd (admitted_not s p p.marking n h)
  arrived (some k) p h = (refl, refl)

  decided_not : (b : Bool) (head : Packet) (due at : Instant)
      → advance_values (pick b (start_head s head due at) (start_first s r due at)).answer ≡ 82 ∷ n ∷ [] → ⊥
  unfolding start_head start_first
  decided_not true head due at h = let y : ◌≡◌ {A = ℕ} 83 82 = ap (λ (l : List ℕ). get_or l 0 0) h in omega arith
  decided_not false head due at h = let y : ◌≡◌ {A = ℕ} 83 82 = ap (λ (l : List ℕ). get_or l 0 0) h in omega arith

  due_not : (b : Bool) (due at : Instant) → advance_values (pick b (nothing_at s at) (decide_of s r (head_of s r) due at)).answer ≡ 82 ∷ n ∷ [] → ⊥
  unfolding decide_of
  due_not true due at h = let y : ◌≡◌ {A = ℕ} 78 82 = ap (λ (l : List ℕ). get_or l 0 0) h in omega arith
  due_not false due at h = decided_not (sent_of s (head_of s r)) (head_of s r) due at h

  waiting_not : (b : Bool) (at : Instant) → advance_values (waiting b s r at).answer ≡ 82 ∷ n ∷ [] → ⊥
  waiting_not true at h = due_not (ltb at.0 (due_of s.line (head_of s r).arrival).0) (due_of s.line (head_of s r).arrival) at h
  waiting_not false at h = let y : ◌≡◌ {A = ℕ} 78 82 = ap (λ (l : List ℕ). get_or l 0 0) h in omega arith

  advanced : (o : Option Refusal) (at : Instant) → advance_values (advancing o s r at).answer ≡ 82 ∷ n ∷ [] → (advancing o s r at).scheduler ≡ s
  advanced none at h = absurd (waiting_not (waits_of s.tallies) at h)
  advanced (some k) at h = refl

pub refused-unchanged : RefusedUnchanged
unfolding arrive_of arrive_room advance_of
refused-unchanged s r (arrive μ len place t) n h =
    let p : Packet = packet_of μ (bytes len) place (instant t) in
    arrived s r n (arrival_refusal s r p) p h
refused-unchanged s r (advance t) n h = (advanced s r n (first_refusal (advance_tests s.clock (instant t))) (instant t) h, refl)
