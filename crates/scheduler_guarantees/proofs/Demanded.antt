-- Demand 3 holds of the code. Assumes nothing.
use mathlib.Core.Path.{◌≡◌, refl, sym, ap, subst, ◌∙◌}
use mathlib.Core.List.{List, [], ◌∷◌, map, Memᴰ}
use Prim.Native.Nat.{ℕ, suc, ◌<◌}
use native.Mathlib.Omega.{arith}
use lib.ListN.{length, get_or, take, length-map}
use Rattle.units.specs.declared.Settings.{Settings}
use Rattle.units.specs.declared.Marking.TheVariants.{Unmarked}
use Rattle.rules.specs.Terms.{Terms}
use Rattle.rules.specs.Line.{Packet, Waiting, unmarked, marked, packet, Line, fresh, due}
use Rattle.rules.specs.Decide.{Decision}
use Rattle.rules.specs.Step.{Call, arrive, advance, Start, Answer, admitted, started, nothing_due, refused, step, after, answers}
use Rattle.rules.specs.History.{starts, unmarked_alone, reference_line, Arrival}
use Rattle.rules.specs.History as history
use Rattle.rules.specs.Demand.{Among, now, later}
use Rattle.rules.specs.Demand as demand
use Rattle.rules.specs.Printed.{line_of}
use Rattle.rules.proofs.Moves.{Choice, fit, unfit, move}
use Rattle.rules.proofs.Reference.{demand_3a}
use Rattle.rules.proofs.Place.{demand_3b}
use Rattle.rules.proofs.Sent.{decision, demand_3c}
use Rattle.room.specs.declared.Room.{Room}
use Rattle.room.specs.Held.{Sized}
use Rattle.scheduler_state.specs.Counts.{gone_of}
use Rattle.scheduler.specs.Represents.{Numbered}
use Rattle.scheduler.proofs.Follows.{all-faithful}
use Rattle.scheduler.proofs.Queues.{numbered-behind}
use Rattle.scheduler_guarantees.specs.Lines.{Begun, begun_in, admitted_in}
use Rattle.scheduler_guarantees.specs.Demands.{in_force, scheduler_by, lines_by, reference_by, number_of, OnTime, InTurn, SentIfBearable}
use Rattle.scheduler_guarantees.proofs.Told.{begun_of, begun-told, admitted-told, member_from}
use Rattle.scheduler_guarantees.proofs.Onward.{call_line, later-lines, count-is}

module _ (settings : Settings) (lent : Room) (z : Sized lent) (cs : List Call) where
  abbrev σ : Terms
  σ = in_force settings

  -- The starts and the reference line, as the rules tell them.
  pub begun-same : begun_in (lines_by settings lent cs) ≡ map begun_of (starts (answers σ fresh cs))
  begun-same = ap begun_in (all-faithful settings lent z cs).given ∙ begun-told (answers σ fresh cs)

  reference-same : reference_by settings lent cs ≡ demand.reference_by σ cs
  reference-same =
      ap (λ (l : List Arrival). reference_line σ 0 (unmarked_alone l))
      (ap (admitted_in 1 cs) (all-faithful settings lent z cs).given ∙ admitted-told 1 cs (answers σ fresh cs))

pub on_time : OnTime
on_time settings lent z cs r x m k e =
    let from : Memᴰ x (map begun_of (starts (answers (in_force settings) fresh cs))) = rw (begun-same settings lent z cs) at k in
    let y = member_from begun_of x (starts (answers (in_force settings) fresh cs)) from in
    let number = ap number_of y.2 in
    let at = ap (λ (b : Begun). b.at) y.2 in
    let d = demand_3a (in_force settings) cs r y.0 (rw (reference-same settings lent z cs) at m) y.1 (sym number ∙ e) in
    (omega arith, omega arith)

-- Among the first p + 1 starts.
among_first : (n p : ℕ) (xs : List Start) → Among n p xs → Memᴰ n (map number_of (take (suc p) (map begun_of xs)))
among_first n p [] a = elim a [ ]
among_first n p (x ∷ xs) (now e) = mathlib.Core.List.Memᴰ.head (sym e)
among_first n (suc p) (x ∷ xs) (later a) = mathlib.Core.List.Memᴰ.tail (among_first n p xs a)

letter : {a b : ℕ} {l m : List ℕ} → a ∷ l ≡ b ∷ m → a ≡ b
letter h = ap (λ (l : List ℕ). get_or l 0 0) h

-- The line A n e is that of an admission, and the line S n t e k that of a start.
admitted-line : (a : Answer) (n e : ℕ) → line_of a ≡ 65 ∷ n ∷ e ∷ [] → (p : Packet) × (a ≡ admitted (unmarked p) e) × (p.number ≡ n)
admitted-line (admitted (unmarked p) x) n e h =
    let same : x ≡ e = ap (λ (l : List ℕ). get_or l 2 0) h in
    (p, ap (λ (y : ℕ). admitted (unmarked p) y) same, ap (λ (l : List ℕ). get_or l 1 0) h)
admitted-line (admitted (marked p) x) n e h = let y : ◌≡◌ {A = ℕ} 77 65 = letter h in absurd (omega arith)
admitted-line (started x) n e h = let y : ◌≡◌ {A = ℕ} 83 65 = letter h in absurd (omega arith)
admitted-line nothing_due n e h = let y : ◌≡◌ {A = ℕ} 78 65 = letter h in absurd (omega arith)
admitted-line (refused c) n e h = let y : ◌≡◌ {A = ℕ} 82 65 = letter h in absurd (omega arith)

started-line : (a : Answer) (n t e k : ℕ) → line_of a ≡ 83 ∷ n ∷ t ∷ e ∷ k ∷ [] → (x : Start) × (a ≡ started x) × (history.number_of x ≡ n)
started-line (started x) n t e k h = (x, refl, ap (λ (l : List ℕ). get_or l 1 0) h)
started-line (admitted (unmarked p) x) n t e k h = let y : ◌≡◌ {A = ℕ} 65 83 = letter h in absurd (omega arith)
started-line (admitted (marked p) x) n t e k h = let y : ◌≡◌ {A = ℕ} 77 83 = letter h in absurd (omega arith)
started-line nothing_due n t e k h = let y : ◌≡◌ {A = ℕ} 78 83 = letter h in absurd (omega arith)
started-line (refused c) n t e k h = let y : ◌≡◌ {A = ℕ} 82 83 = letter h in absurd (omega arith)

pub in_turn : InTurn
in_turn settings lent z cs len place t n e then h few =
    let σ : Terms = in_force settings in
    let line : Line = after σ fresh cs in
    let c : Call = arrive Unmarked len place t in
    let a = admitted-line (step σ line c).answer n e (sym (call_line settings lent z cs c) ∙ h) in
    let count = count-is settings lent z cs in
    let lines = ap begun_in (later-lines settings lent z cs c then) ∙ begun-told (answers σ (step σ line c).line then) in
    let enough : length line.queue < length (starts (answers σ (step σ line c).line then)) =
    omega (arith, ap length lines, length-map (starts (answers σ (step σ line c).line then)) begun_of) in
    let among = demand_3b σ cs len place t a.0 e then a.1 enough in
    rw (lines, count) (among_first n (length line.queue) (starts (answers σ (step σ line c).line then)) (rw a.2 at among))

-- The packet that starts, where a marked packet m is at the head: m itself, or one with a higher number.
starts-itself : {d n : ℕ} {m : Packet} {q : List Waiting} {c : Decision} (σ : Terms) → Numbered n (marked m ∷ q) → Choice σ d (marked m ∷ q) c
    → (packet c.what).number ≡ m.number → c.what ≡ marked m
starts-itself σ h (fit f) e = refl
starts-itself {n = n} σ h (unfit {m = m} {ms = ms} {w = w} {r = r} f) e =
    let k = numbered-behind (suc n) ms (unmarked w) r h.1 in
    absurd (omega (arith, h.0, k.0))

pub sent_if_bearable : SentIfBearable
sent_if_bearable settings lent z cs t q m n at e k head h =
    let σ : Terms = in_force settings in
    let line : Line = after σ fresh cs in
    let a = started-line (step σ line (advance t)).answer n at e k (sym (call_line settings lent z cs (advance t)) ∙ h) in
    let x : Start = a.0 in
    let d = decision σ x (move σ line (advance t)) a.1 in
    let c : Choice σ (due line) (marked m ∷ q) d.0 = subst (λ (l : List Waiting). Choice σ (due line) l d.0) head d.1 in
    let numbered = subst (λ (l : List Waiting). Numbered (gone_of (scheduler_by settings lent cs).tallies) l) head (all-faithful settings lent z cs).represents.numbered in
    let what : x.what ≡ d.0.what = ap (λ (x : Start). x.what) d.2 in
    let number : (packet d.0.what).number ≡ n = sym (ap (λ (y : Waiting). (packet y).number) what) ∙ a.2 in
    let demanded = demand_3c σ cs t q m x head a.1 in (
      λ i. demanded.0 (what ∙ starts-itself σ numbered c (number ∙ i)),
      λ i. sym number ∙ ap (λ (y : Waiting). (packet y).number) (sym what ∙ demanded.1 i),
    )
