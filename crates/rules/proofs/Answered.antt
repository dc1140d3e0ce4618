-- How large the numbers of an answer get. Assumes nothing.
use mathlib.Core.Path.{◌≡◌, refl, ap}
use mathlib.Core.List.{List, [], ◌∷◌, ◌++◌}
use mathlib.Core.Option.{Option, none, some}
use Prim.Native.Nat.{ℕ, suc, ◌+◌, ◌≤◌}
use native.Mathlib.Omega.{arith}
use lib.Dec.{leb}
use lib.ListN.{length, length-append}
use Rattle.refusals.specs.declared.Refusal.{Refusal}
use Rattle.refusals.specs.First.{first_refusal}
use Rattle.refusals.specs.Numbers.{number}
use Rattle.refusals.proofs.Laws.{given}
use Rattle.units.specs.declared.Marking.{Marking}
use Rattle.units.specs.declared.Marking.TheVariants.{Unmarked, Marked}
use Rattle.rules.specs.Terms.{Terms}
use Rattle.rules.specs.Line.{Packet, Waiting, unmarked, marked, packet, Line, fresh, admissions, unmarked_of, marked_of, due}
use Rattle.rules.specs.Extra.{extra_delay}
use Rattle.rules.specs.Decide.{Decision, decide}
use Rattle.rules.specs.Step.{Call, arrive, advance, Answer, refused, Outcome, arrival_tests, newcomer, joined, arriving, advance_tests, settled, if_due, advancing, step, after}
use Rattle.rules.specs.Bounds.{AnswerBounds}
use Rattle.rules.proofs.Lists.{Each, each_map, each_snoc, unmarked-append, marked-behind}
use Rattle.rules.proofs.Moves.{Choice, Move, refuses, admits, idles, decides, move, induct, invariant}
use Rattle.rules.proofs.Planned.{Planned, planned-at}
use Rattle.rules.proofs.Waits.{Waits, admitted-waits}
use Rattle.rules.proofs.Started.{chosen-each, Chosen, chosen}
use Rattle.rules.proofs.Reached.{reached}
use Rattle.rules.proofs.Served.{chosen-split, admissions-joined, admissions-decided}

module _ (σ : Terms) where
  -- No more packets are admitted than there are calls.
  one-call : {c : Call} (s z : Line) {o : Outcome} (n : ℕ) → Move σ s c o → admissions z ≤ admissions o.line + n
      → admissions z ≤ admissions s + suc n
  one-call s z n (refuses k) h = omega arith
  one-call s z n (admits {μ = μ} {len = len} {place = place} {t = t} a) h = omega (arith, admissions-joined σ s (newcomer σ s μ len place t) t)
  one-call s z n (idles a k) h = omega arith
  one-call s z n (decides {t = t} {c = c} a b x) h = omega (arith, admissions-decided σ s (due s) c.what c.dropped c.rest t)

  abbrev Few : Unit {0} → Line → List Call → List Answer → Line → Type 0
  Few i s cs rs z = admissions z ≤ admissions s + length cs

  pub admitted_few : (cs : List Call) → admissions (after σ fresh cs) ≤ length cs
  admitted_few cs =
      let few : admissions (after σ fresh cs) ≤ 0 + length cs =
      induct σ (λ (i : Unit {0}) (s : Line). Unit {0}) Few (λ i s h. omega arith)
      (λ i s z c o cs rs h m go. one-call s z (length cs) m (go tt tt)) cs tt fresh tt in
      omega arith

  -- No waiting packet has a number above that of the last admission.
  abbrev NumberMost : (n : ℕ) → Waiting → Type 0
  NumberMost n x = (packet x).number ≤ n

  new_number : (s : Line) (μ : Marking) (len place t : ℕ) → (packet (newcomer σ s μ len place t)).number ≡ 1 + admissions s
  new_number s Unmarked len place t = refl
  new_number s Marked len place t = refl

  numbered : {c : Call} (s : Line) {o : Outcome} → Each (NumberMost (admissions s)) s.queue → Move σ s c o
      → Each (NumberMost (admissions o.line)) o.line.queue
  numbered s h (refuses k) = h
  numbered s h (admits {μ = μ} {len = len} {place = place} {t = t} a) =
      let x : Waiting = newcomer σ s μ len place t in
      rw (admissions-joined σ s x t)
      (each_snoc (NumberMost (1 + admissions s)) s.queue x
      (each_map (NumberMost (admissions s)) (NumberMost (1 + admissions s)) (λ y k. omega arith) s.queue h) (omega (arith, new_number s μ len place t)))
  numbered s h (idles a k) = h
  numbered s h (decides {t = t} {c = c} a b x) =
      rw (admissions-decided σ s (due s) c.what c.dropped c.rest t) (chosen-each σ (NumberMost (admissions s)) x h).1

  waiting-numbered : (cs : List Call) → Each (NumberMost (admissions (after σ fresh cs))) (after σ fresh cs).queue
  waiting-numbered cs =
      (invariant σ (λ (i : Unit {0}) (s : Line). Each (NumberMost (admissions s)) s.queue) (λ i s c o h m. (tt, numbered s h m)) cs tt fresh tt).1

  -- A refusal's number stands in the table.
  arrival-refused : (s : Line) (μ : Marking) (len t : ℕ) (q : Refusal) (x : Waiting) (o : Option Refusal) → first_refusal (arrival_tests σ s μ len t) ≡ o
      → (arriving σ o s x t).answer ≡ refused q → number q ≤ 7
  arrival-refused s μ len t q x none e h = let z : ◌≡◌ {A = ℕ} 0 1 = cc in absurd (omega arith)
  arrival-refused s μ len t q x (some r) e h =
      let same : r ≡ q = cc in
      rw (← same) (given (λ (r : Refusal). number r ≤ 7) (arrival_tests σ s μ len t) r (omega arith) e)

  never_refused : (s : Line) (t : ℕ) (q : Refusal) (o : Option Decision) → (settled σ s t o).answer ≡ refused q → number q ≤ 7
  never_refused s t q none h = let z : ◌≡◌ {A = ℕ} 0 1 = cc in absurd (omega arith)
  never_refused s t q (some c) h = let z : ◌≡◌ {A = ℕ} 0 1 = cc in absurd (omega arith)

  advance-refused : (s : Line) (t : ℕ) (q : Refusal) (o : Option Refusal) → first_refusal (advance_tests σ s t) ≡ o
      → (advancing σ o s t).answer ≡ refused q → number q ≤ 7
  advance-refused s t q none e h = never_refused s t q (if_due σ (leb (due s) t) (decide σ (due s) s.queue)) h
  advance-refused s t q (some r) e h =
      let same : r ≡ q = cc in
      rw (← same) (given (λ (r : Refusal). number r ≤ 7) (advance_tests σ s t) r (omega arith) e)

  refused_few : (s : Line) (c : Call) (q : Refusal) → (step σ s c).answer ≡ refused q → number q ≤ 7
  unfolding step
  refused_few s (arrive μ len place t) q h = arrival-refused s μ len t q (newcomer σ s μ len place t) _ refl h
  refused_few s (advance t) q h = advance-refused s t q _ refl h

  -- The extra delay of a newcomer, planned behind all that waits.
  new_extra : (e d z : ℕ) (q : List Waiting) (x : Waiting) → Planned σ e d z (unmarked_of (q ++ x ∷ [])) → extra_delay σ d q x ≤ σ.alpha
  new_extra e d z q (unmarked p) h =
      let k = planned-at σ e d z (unmarked_of q) [] p (rw (unmarked-append q (unmarked p ∷ [])) at h) in
      omega arith
  new_extra e d z q (marked m) h = omega arith

  -- That of a packet that starts.
  start-extra : (e d z : ℕ) (W R : List Packet) (x : Waiting) → Planned σ e d z W → Chosen σ d W x R → extra_delay σ d [] x ≤ σ.alpha
  start-extra e d z W R (unmarked w) h c =
      let plan : Planned σ e d z (w ∷ R) = rw c at h in
      omega arith
  start-extra e d z W R (marked m) h c = omega arith

  dropped_few : {d : ℕ} {q : List Waiting} {c : Decision} → Choice σ d q c → length c.dropped ≤ length (marked_of q)
  dropped_few {d} {q} {c} x =
      omega (
        arith,
        ap (λ (l : List Waiting). length (marked_of l)) (chosen-split σ x),
        ap length (marked-behind c.dropped (c.what ∷ c.rest)),
        length-append c.dropped (marked_of (c.what ∷ c.rest)),
      )

  bounded : {c : Call} (n e : ℕ) (s : Line) {o : Outcome} → admissions s ≤ n → Each (NumberMost (admissions s)) s.queue
      → length (marked_of s.queue) ≤ σ.room → Waits σ e s → ((q : Refusal) → o.answer ≡ refused q → number q ≤ 7) → Move σ s c o
      → AnswerBounds σ (suc n) o.answer
  bounded n e s few h room w r (refuses q) = r q refl
  bounded n e s few h room w r (admits {μ = μ} {len = len} {place = place} {t = t} a) =
      let x : Waiting = newcomer σ s μ len place t in
      let new = admitted-waits σ e s μ len place t w a in
      (omega (arith, new_number s μ len place t), new_extra e (due (joined σ s x t)) _ s.queue x new.planned)
  bounded n e s few h room w r (idles a k) = tt
  bounded n e s few h room w r (decides {c = c} a b x) = (
    omega (arith, (chosen-each σ (NumberMost (admissions s)) x h).0),
    omega (arith, a.early),
    start-extra e (due s) s.reference_end (unmarked_of s.queue) (unmarked_of c.rest) c.what w.planned (chosen σ x),
    omega (arith, dropped_few x),
  )

  -- Where no more marked packets wait than may.
  pub answer-bounded : (before : List Call) (c : Call) → length (marked_of (after σ fresh before).queue) ≤ σ.room
      → AnswerBounds σ (suc (length before)) (step σ (after σ fresh before) c).answer
  answer-bounded before c room =
      let s : Line = after σ fresh before in
      let i = reached σ before in
      bounded (length before) i.0 s (admitted_few before) (waiting-numbered before) room i.1 (refused_few s c) (move σ s c)
