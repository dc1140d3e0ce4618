-- The bound over all calls follows from that over a flow's own packets, whose span is no longer. Assumes nothing.
use mathlib.Core.Path.{◌≡◌, refl, sym}
use mathlib.Core.Bool.{Bool, true, false}
use mathlib.Core.List.{List, [], ◌∷◌, ◌++◌}
use Prim.Native.Nat.{ℕ, ◌-◌, ◌≤◌}
use native.Mathlib.Nat.{mul-le-mul_left}
use native.Mathlib.Omega.{arith}
use Rattle.marker_flows.specs.declared.Flow.{Flow}
use Rattle.marker_rules.specs.Terms.{Terms, flow_at}
use Rattle.marker_rules.specs.Bucket.{holds}
use Rattle.marker_rules.specs.Step.{Call, Answer, Marker, Outcome, bucket_at, answer_by, step}
use Rattle.marker_rules.specs.Told.{Told, told, clock_then, Onward, add_instant, instants, last_of, span_of, add_own, of_flow, instants_of}
use Rattle.marker_rules.specs.Stretches.{Bounded, OwnBounded}
use Rattle.marker_rules.proofs.Adds.{Adds, no_instant, other, its_own, adds, own-append}
use Rattle.marker_rules.proofs.Turns.{Move, refuses, accepts, move}

module _ (f : ℕ) where
  -- What one call more in front makes of a flow's packets and of all instants.
  module _ (c : Call) (a : Answer) (hs : List Told) where
    abbrev own_then : List ℕ
    own_then = instants_of (add_own f c a (of_flow f hs))

    abbrev all_then : List ℕ
    all_then = add_instant c a (instants hs)

    -- What is known of the calls that follow: their last instant and their span, from where the clock then stands.
    abbrev LastKept : (t : ℕ) → Type 0
    LastKept t = (v s : ℕ) → v ≤ s → s ≡ clock_then t c a → last_of v (instants_of (of_flow f hs)) ≤ last_of s (instants hs)

    abbrev SpanKept : (t : ℕ) → Type 0
    SpanKept t = (s : ℕ) → s ≡ clock_then t c a → span_of (instants_of (of_flow f hs)) ≤ last_of s (instants hs) - s

    last_turn : (u t : ℕ) → Adds f c a → u ≤ t → t ≤ clock_then t c a
        → LastKept t
        → last_of u own_then ≤ last_of t all_then
    last_turn u t (no_instant l i o) h k go = rw (i (instants hs), o (of_flow f hs)) (go u t h (sym (l t)))
    last_turn u t (other l i o) h k go = rw (i (instants hs), o (of_flow f hs)) (go u c.at (omega (arith, h, k, l t)) (sym (l t)))
    last_turn u t (its_own l i p e o) h k go = rw (i (instants hs), o (of_flow f hs), e) (go c.at c.at (omega arith) (sym (l t)))

    from-turn : (t : ℕ) → Adds f c a → t ≤ clock_then t c a
        → LastKept t
        → SpanKept t
        → span_of own_then ≤ last_of t all_then - t
    from-turn t (no_instant l i o) k go span = rw (i (instants hs), o (of_flow f hs)) (span t (sym (l t)))
    from-turn t (other l i o) k go span = rw (i (instants hs), o (of_flow f hs)) (omega (arith, span c.at (sym (l t)), k, l t))
    from-turn t (its_own l i p e o) k go span =
        rw (i (instants hs), o (of_flow f hs), e) (omega (arith, go c.at c.at (omega arith) (sym (l t)), k, l t))

    span-turn : (t : ℕ) → Adds f c a
        → LastKept t
        → SpanKept t
        → span_of (instants_of (of_flow f hs)) ≤ span_of (instants hs)
        → span_of own_then ≤ span_of all_then
    span-turn t (no_instant l i o) go span h = rw (i (instants hs), o (of_flow f hs)) h
    span-turn t (other l i o) go span h = rw (i (instants hs), o (of_flow f hs)) (span c.at (sym (l t)))
    span-turn t (its_own l i p e o) go span h =
        rw (i (instants hs), o (of_flow f hs), e) (omega (arith, go c.at c.at (omega arith) (sym (l t))))

  -- The last of a flow's packets is no later than the last of all.
  last-own : (u t : ℕ) (hs : List Told) → u ≤ t → Onward t hs → last_of u (instants_of (of_flow f hs)) ≤ last_of t (instants hs)
  last-own u t [] h k = h
  last-own u t (g ∷ hs) h k =
      last_turn g.call g.answer hs u t (adds f g.call g.answer) h k.0 (λ v s i e. last-own v s hs i (rw e k.1))

  span-from : (t : ℕ) (hs : List Told) → Onward t hs → span_of (instants_of (of_flow f hs)) ≤ last_of t (instants hs) - t
  span-from t [] k = omega arith
  span-from t (g ∷ hs) k =
      from-turn g.call g.answer hs t (adds f g.call g.answer) k.0 (λ v s i e. last-own v s hs i (rw e k.1))
      (λ s e. span-from s hs (rw e k.1))

  span-own : (t : ℕ) (hs : List Told) → Onward t hs → span_of (instants_of (of_flow f hs)) ≤ span_of (instants hs)
  span-own t [] k = omega arith
  span-own t (g ∷ hs) k =
      span-turn g.call g.answer hs t (adds f g.call g.answer) (λ v s i e. last-own v s hs i (rw e k.1))
      (λ s e. span-from s hs (rw e k.1)) (span-own (clock_then t g.call g.answer) hs k.1)

-- What follows some calls goes on from a later instant, and so does its first part.
onward-rest : (t : ℕ) (gs hs : List Told) → Onward t (gs ++ hs) → (s : ℕ) × Onward s hs
onward-rest t [] hs k = (t, k)
onward-rest t (g ∷ gs) hs k = onward-rest (clock_then t g.call g.answer) gs hs k.1

onward-first : (t : ℕ) (gs hs : List Told) → Onward t (gs ++ hs) → Onward t gs
onward-first t [] hs k = tt
onward-first t (g ∷ gs) hs k = (k.0, onward-first (clock_then t g.call g.answer) gs hs k.1)

pub bounded-by : (w : Flow) (f t : ℕ) (hs : List Told) → Onward t hs → OwnBounded w (of_flow f hs) → Bounded w f hs
bounded-by w f t hs k own before these later e =
    let whole : Onward t (before ++ (these ++ later)) = rw (← e) k in
    let r = onward-rest t before (these ++ later) whole in
    let span = span-own f r.0 these (onward-first r.0 these later r.1) in
    let split : of_flow f hs ≡ of_flow f before ++ (of_flow f these ++ of_flow f later) =
    rw (e, own-append f before (these ++ later), own-append f these later) in
    let b = own (of_flow f before) (of_flow f these) (of_flow f later) split in
    omega (arith, b, mul-le-mul_left w.rate span)

-- What is told of any calls goes on from the clock.
module _ (σ : Terms) where
  answered : (b : Bool) (t : ℕ) (c : Call) → clock_then t c (answer_by b) ≡ c.at
  answered true t c = refl
  answered false t c = refl

  clock_then_lem : (s : Marker) (c : Call) {o : Outcome} → Move σ s c o
      → (s.clock ≤ clock_then s.clock c o.answer) × (o.marker.clock ≡ clock_then s.clock c o.answer)
  clock_then_lem s c (refuses r) = (omega arith, refl)
  clock_then_lem s c (accepts a) =
      let e = answered (holds (flow_at σ c.flow) (bucket_at s c.flow) c.len c.at) s.clock c in
      (rw e a.onward, sym e)

  pub told-onward : (s : Marker) (cs : List Call) → Onward s.clock (told σ s cs)
  unfolding told
  told-onward s [] = tt
  told-onward s (c ∷ cs) =
      let k = clock_then_lem s c (move σ s c) in
      (k.0, rw (← k.1) (told-onward (step σ s c).marker cs))
