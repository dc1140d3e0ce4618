-- A stretch of a flow's own packets is one of the calls, from its first packet to its last: so the bound over calls is that over own packets. Assumes nothing.
use mathlib.Core.Path.{◌≡◌, refl, sym, ap, ◌∙◌}
use mathlib.Core.List.{List, [], ◌∷◌, ◌++◌, append-nil, nil≢cons, head-eq_of_cons-eq, tail-eq_of_cons-eq}
use Prim.Native.Nat.{ℕ, ◌*◌}
use native.Mathlib.Omega.{arith}
use Rattle.marker_rules.specs.Told.{Told, add_instant, instants, last_of, span_of, Passed, add_own, of_flow, unmarked_bytes, instant_of, instants_of}
use Rattle.marker_rules.specs.Stretches.{BoundIsOwn}
use Rattle.marker_rules.proofs.Adds.{Adds, no_instant, other, its_own, adds}

same-front : (p q : Passed) (ps qs : List Passed) → p ≡ q → ps ≡ qs → p ∷ ps ≡ q ∷ qs
same-front p q ps qs e h = rw (e, h)

module _ (f : ℕ) where
  -- The calls up to the last of these packets.
  record Upto (hs : List Told) (these : List Passed) : Type 0 where
    first : List Told
    rest : List Told
    split : hs ≡ first ++ rest
    own : of_flow f first ≡ these
    last : (t : ℕ) → last_of t (instants first) ≡ last_of t (instants_of these)

  upto-none : (hs : List Told) → Upto hs []
  upto-none hs = record { first = []; rest = hs; split = refl; own = refl; last = λ t. refl }

  upto_turn : (h : Told) (hs : List Told) (q : Passed) (qs later : List Passed) → Adds f h.call h.answer
      → add_own f h.call h.answer (of_flow f hs) ≡ q ∷ (qs ++ later)
      → (of_flow f hs ≡ q ∷ (qs ++ later) → Upto hs (q ∷ qs))
      → (of_flow f hs ≡ qs ++ later → Upto hs qs)
      → Upto (h ∷ hs) (q ∷ qs)
  upto_turn h hs q qs later (no_instant l i o) e all more =
      let u = all (sym (o (of_flow f hs)) ∙ e) in
      record {
        first = h ∷ u.first;
        rest = u.rest;
        split = ap (λ (l : List Told). h ∷ l) u.split;
        own = o (of_flow f u.first) ∙ u.own;
        last = λ t. ap (last_of t) (i (instants u.first)) ∙ u.last t;
      }
  upto_turn h hs q qs later (other l i o) e all more =
      let u = all (sym (o (of_flow f hs)) ∙ e) in
      record {
        first = h ∷ u.first;
        rest = u.rest;
        split = ap (λ (l : List Told). h ∷ l) u.split;
        own = o (of_flow f u.first) ∙ u.own;
        last = λ t. ap (last_of t) (i (instants u.first)) ∙ u.last h.call.at;
      }
  upto_turn h hs q qs later (its_own l i p a o) e all more =
      let whole = sym (o (of_flow f hs)) ∙ e in
      let same : p ≡ q = head-eq_of_cons-eq whole in
      let u = more (tail-eq_of_cons-eq whole) in
      record {
        first = h ∷ u.first;
        rest = u.rest;
        split = ap (λ (l : List Told). h ∷ l) u.split;
        own = o (of_flow f u.first) ∙ same-front p q (of_flow f u.first) qs same u.own;
        last = λ t. ap (last_of t) (i (instants u.first)) ∙ u.last h.call.at
            ∙ ap (λ (s : ℕ). last_of s (instants_of qs)) (sym a ∙ ap instant_of same);
      }

  upto : (hs : List Told) (these later : List Passed) → of_flow f hs ≡ these ++ later → Upto hs these
  upto hs [] later e = upto-none hs
  upto [] (q ∷ qs) later e = absurd (nil≢cons e)
  upto (h ∷ hs) (q ∷ qs) later e =
      upto_turn h hs q qs later (adds f h.call h.answer) e (λ x. upto hs (q ∷ qs) later x) (λ x. upto hs qs later x)

  -- The calls from the first of these packets to the last.
  record Cut (hs : List Told) (these : List Passed) : Type 0 where
    before : List Told
    middle : List Told
    later : List Told
    split : hs ≡ before ++ (middle ++ later)
    own : of_flow f middle ≡ these
    span : span_of (instants middle) ≡ span_of (instants_of these)

  cut-none : (hs : List Told) → Cut hs []
  cut-none hs = record { before = hs; middle = []; later = []; split = sym (append-nil hs); own = refl; span = refl }

  cut-after : (h : Told) (hs : List Told) (these : List Passed) → Cut hs these → Cut (h ∷ hs) these
  cut-after h hs these c =
      record {
        before = h ∷ c.before;
        middle = c.middle;
        later = c.later;
        split = ap (λ (l : List Told). h ∷ l) c.split;
        own = c.own;
        span = c.span;
      }

  -- The first of these packets is that of the call in front.
  cut-here : (h : Told) (hs : List Told) (p q : Passed) (qs : List Passed) → p.at ≡ h.call.at → p ≡ q
      → ((ts : List ℕ) → add_instant h.call h.answer ts ≡ h.call.at ∷ ts)
      → ((ps : List Passed) → add_own f h.call h.answer ps ≡ p ∷ ps)
      → Upto hs qs → Cut (h ∷ hs) (q ∷ qs)
  cut-here h hs p q qs a same i o u =
      record {
        before = [];
        middle = h ∷ u.first;
        later = u.rest;
        split = ap (λ (l : List Told). h ∷ l) u.split;
        own = o (of_flow f u.first) ∙ same-front p q (of_flow f u.first) qs same u.own;
        span = rw (i (instants u.first), u.last h.call.at, ← a, same);
      }

  cut-turn : (h : Told) (hs : List Told) (before these later : List Passed) → Adds f h.call h.answer
      → add_own f h.call h.answer (of_flow f hs) ≡ before ++ (these ++ later)
      → ((first : List Passed) → of_flow f hs ≡ first ++ (these ++ later) → Cut hs these)
      → Cut (h ∷ hs) these
  cut-turn h hs before these later (no_instant l i o) e go = cut-after h hs these (go before (sym (o (of_flow f hs)) ∙ e))
  cut-turn h hs before these later (other l i o) e go = cut-after h hs these (go before (sym (o (of_flow f hs)) ∙ e))
  cut-turn h hs (b ∷ before) these later (its_own l i p a o) e go =
      cut-after h hs these (go before (tail-eq_of_cons-eq (sym (o (of_flow f hs)) ∙ e)))
  cut-turn h hs [] [] later (its_own l i p a o) e go = cut-none (h ∷ hs)
  cut-turn h hs [] (q ∷ qs) later (its_own l i p a o) e go =
      let whole = sym (o (of_flow f hs)) ∙ e in
      cut-here h hs p q qs a (head-eq_of_cons-eq whole) i o (upto hs qs later (tail-eq_of_cons-eq whole))

  cut : (hs : List Told) (before these later : List Passed) → of_flow f hs ≡ before ++ (these ++ later) → Cut hs these
  cut [] before [] later e = cut-none []
  cut [] [] (q ∷ qs) later e = absurd (nil≢cons e)
  cut [] (b ∷ before) (q ∷ qs) later e = absurd (nil≢cons e)
  cut (h ∷ hs) before these later e =
      cut-turn h hs before these later (adds f h.call h.answer) e (λ first x. cut hs first these later x)

pub bound-is-own : BoundIsOwn
bound-is-own w f hs k before these later e =
    let c = cut f hs before these later e in
    let h = k c.before c.middle c.later c.split in
    let b = ap unmarked_bytes c.own in
    let r = ap (λ (s : ℕ). w.rate * s) c.span in
    omega (arith, h, b, r)
