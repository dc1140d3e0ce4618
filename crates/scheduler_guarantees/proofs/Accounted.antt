-- The accounting holds of the code. Assumes nothing.
use mathlib.Core.Path.{◌≡◌, refl, sym, ap, ◌∙◌}
use mathlib.Core.Bool.{Bool, true, false}
use mathlib.Core.Logic.{inl, inr, ◌↔◌}
use mathlib.Core.List.{List, [], ◌∷◌, map, Memᴰ}
use Prim.Native.Nat.{ℕ, suc, ◌+◌, ◌≤◌, ◌<◌}
use native.Mathlib.Omega.{arith}
use lib.Dec.{ltb}
use lib.ListN.{length}
use borrow.Author.Tests.{ltb-true, ltb-false}
use Rattle.rules.specs.Terms.{Terms}
use Rattle.rules.specs.Line.{Waiting, packet, Line, fresh, admissions, due}
use Rattle.rules.specs.Step.{Call, arrive, advance, Start, Answer, Outcome, newcomer, after}
use Rattle.rules.specs.History.{admitted_from}
use Rattle.rules.specs.Demand.{admitted_by, starts_by}
use Rattle.rules.specs.Account.{ExactlyOne}
use Rattle.rules.specs.Account as account
use Rattle.rules.specs.Printed.{tally_line}
use Rattle.rules.proofs.Moves.{Move, refuses, admits, idles, decides, induct}
use Rattle.rules.proofs.Served.{admissions-joined, admissions-decided}
use Rattle.rules.proofs.Fates.{one_fate}
use Rattle.rules.proofs.Counted.{tallies-count, clock-is-last}
use Rattle.scheduler_state.specs.Counts.{admissions_of, gone_of}
use Rattle.scheduler.specs.Represents.{Numbered}
use Rattle.scheduler.proofs.Follows.{all-faithful}
use Rattle.scheduler_guarantees.specs.Lines.{Begun, begun_in}
use Rattle.scheduler_guarantees.specs.Demands.{in_force, scheduler_by, lines_by}
use Rattle.scheduler_guarantees.specs.Account.{HasStarted, WasDropped, OneFate, TalliesCount, ClockIsLast}
use Rattle.scheduler_guarantees.proofs.Told.{begun_of, member_from, member_to}
use Rattle.scheduler_guarantees.proofs.Onward.{all-ranks, admissions-read, gone-read}
use Rattle.scheduler_guarantees.proofs.Demanded.{begun-same}

-- As many as the tallies say were admitted.
module _ (σ : Terms) where
  abbrev Count : Unit {0} → Line → List Call → List Answer → Line → Type 0
  Count i s cs rs z = (n : ℕ) → length (admitted_from n cs rs) + admissions s ≡ admissions z

  one : {c : Call} (s z : Line) {o : Outcome} (cs : List Call) (rs : List Answer) → Move σ s c o → Count tt o.line cs rs z
      → Count tt s (c ∷ cs) (o.answer ∷ rs) z
  one s z cs rs (refuses {c = arrive μ len place t} k) h n = h n
  one s z cs rs (refuses {c = advance t} k) h n = h n
  one s z cs rs (admits {μ = μ} {len = len} {place = place} {t = t} a) h n =
      omega (arith, h (1 + n), admissions-joined σ s (newcomer σ s μ len place t) t)
  one s z cs rs (idles a k) h n = h n
  one s z cs rs (decides {t = t} {c = c} a k x) h n = omega (arith, h n, admissions-decided σ s (due s) c.what c.dropped c.rest t)

  admitted-count : (cs : List Call) → length (admitted_by σ cs) ≡ admissions (after σ fresh cs)
  admitted-count cs =
      let h =
      induct σ (λ (i : Unit {0}) (s : Line). Unit {0}) Count (λ i s h n. omega arith) (λ i s z c o cs rs h m go. one s z cs rs m (go tt tt)) cs tt fresh tt 1 in
      omega arith

-- The numbers of what waits, from rank n.
above : (n : ℕ) (q : List Waiting) (x : Waiting) → Numbered n q → Memᴰ x q → n < (packet x).number
above n [] x h m = elim m [ ]
above n (y ∷ q) x h (Memᴰ.head e) = omega (arith, ap (λ (w : Waiting). (packet w).number) e, h.0)
above n (y ∷ q) x h (Memᴰ.tail m) = omega (arith, above (suc n) q x h.1 m)

found : (n k : ℕ) (q : List Waiting) → Numbered n q → n < k → k ≤ n + length q → account.IsWaiting k q
found n k [] h a b = absurd (omega arith)
found n k (x ∷ q) h a b = by (ltb (suc n) k) refl (λ c. found (suc n) k q h.1 c (omega arith))
  where
    by : (t : Bool) → ltb (suc n) k ≡ t → (suc n < k → account.IsWaiting k q) → account.IsWaiting k (x ∷ q)
    by false e go = (x, Memᴰ.head refl, omega (arith, h.0, ltb-false (suc n) k e))
    by true e go =
        let f = go (ltb-true (suc n) k e) in
        (f.0, Memᴰ.tail f.1, f.2)

exactly : {A B C A' B' C' : Type 0} → A ↔ A' → B ↔ B' → C ↔ C' → ExactlyOne A B C → ExactlyOne A' B' C'
exactly a b c (inl h) = inl (a.0 h.0, λ x. h.1 (b.1 x), λ x. h.2 (c.1 x))
exactly a b c (inr (inl h)) = inr (inl (λ x. h.0 (a.1 x), b.0 h.1, λ x. h.2 (c.1 x)))
exactly a b c (inr (inr h)) = inr (inr (λ x. h.0 (a.1 x), λ x. h.1 (b.1 x), c.0 h.2))

module _ (xs : List Start) (ls : List (List ℕ)) (same : begun_in ls ≡ map begun_of xs) (k : ℕ) where
  started-same : account.HasStarted k xs ↔ HasStarted k ls
  started-same = (
    λ h. (begun_of h.0, rw same (member_to begun_of h.0 xs h.1), h.2),
    λ h.
        let y = member_from begun_of h.0 xs (rw same at h.1) in
        (y.0, y.1, sym (ap (λ (b : Begun). b.number) y.2) ∙ h.2),
  )

  dropped-same : account.WasDropped k xs ↔ WasDropped k ls
  dropped-same = (
    λ h. (begun_of h.0, rw same (member_to begun_of h.0 xs h.1), h.2, h.3),
    λ h.
        let y = member_from begun_of h.0 xs (rw same at h.1) in
        let n = ap (λ (b : Begun). b.number) y.2 in
        let d = ap (λ (b : Begun). b.dropped) y.2 in
        (y.0, y.1, omega arith, omega arith),
  )

pub one_fate_each : OneFate
one_fate_each settings lent z cs k a b =
    let σ : Terms = in_force settings in
    let f = all-faithful settings lent z cs in
    let same = begun-same settings lent z cs in
    let total = all-ranks settings lent z cs in
    let many = admitted-count σ cs in
    let counted : admissions_of (scheduler_by settings lent cs).tallies ≡ admissions (after σ fresh cs) = omega (arith, f.represents.tallies) in
    let read = admissions-read settings lent z cs in
    let gone = gone-read settings lent z cs in
    exactly (started-same (starts_by σ cs) (lines_by settings lent cs) same k) (dropped-same (starts_by σ cs) (lines_by settings lent cs) same k) (
      λ h. omega (arith, above (gone_of (scheduler_by settings lent cs).tallies) (after σ fresh cs).queue h.0 f.represents.numbered h.1, h.2),
      λ h. found (gone_of (scheduler_by settings lent cs).tallies) k (after σ fresh cs).queue f.represents.numbered (omega arith) (omega arith),
    ) (one_fate σ cs k a (omega arith))

pub tallies-count-each : TalliesCount
tallies-count-each settings lent z cs = (all-faithful settings lent z cs).tallies ∙ ap tally_line (tallies-count (in_force settings) cs)

pub clock-is-last-each : ClockIsLast
clock-is-last-each settings lent z cs = (all-faithful settings lent z cs).represents.clock ∙ clock-is-last (in_force settings) cs
