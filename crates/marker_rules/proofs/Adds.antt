-- What a call with its answer adds to a flow's packets and to all instants: every proof over told calls goes by these three. Assumes nothing.
use mathlib.Core.Path.{◌≡◌, refl, ap, ◌∙◌}
use mathlib.Core.Bool.{Bool, true, false}
use mathlib.Core.List.{List, [], ◌∷◌, ◌++◌}
use Prim.Native.Nat.{ℕ}
use lib.Dec.{eqb}
use Rattle.marker_rules.specs.Step.{Call, Answer, unmarked, marked, refused, answer_by}
use Rattle.marker_rules.specs.Told.{Told, clock_then, add_instant, Passed, passed, add_own, of_flow}

module _ (f : ℕ) where
  -- What a flow adds to a list of its packets: nothing, or its packet at the instant of an accepted call.
  pub data Adds (c : Call) (a : Answer) : Type 0 where
    no_instant : ((t : ℕ) → clock_then t c a ≡ t) → ((ts : List ℕ) → add_instant c a ts ≡ ts) → ((ps : List Passed) → add_own f c a ps ≡ ps) → Adds c a
    other : ((t : ℕ) → clock_then t c a ≡ c.at) → ((ts : List ℕ) → add_instant c a ts ≡ c.at ∷ ts) → ((ps : List Passed) → add_own f c a ps ≡ ps) → Adds c a
    its_own : ((t : ℕ) → clock_then t c a ≡ c.at) → ((ts : List ℕ) → add_instant c a ts ≡ c.at ∷ ts)
        → (p : Passed) → p.at ≡ c.at → ((ps : List Passed) → add_own f c a ps ≡ p ∷ ps) → Adds c a

  adds-by : (c : Call) (b : Bool) (x : Bool) → eqb c.flow f ≡ x → Adds c (answer_by b)
  adds-by c true true e = its_own (λ t. refl) (λ ts. refl) (passed c true) refl (λ ps. rw e)
  adds-by c true false e = other (λ t. refl) (λ ts. refl) (λ ps. rw e)
  adds-by c false true e = its_own (λ t. refl) (λ ts. refl) (passed c false) refl (λ ps. rw e)
  adds-by c false false e = other (λ t. refl) (λ ts. refl) (λ ps. rw e)

  pub adds : (c : Call) (a : Answer) → Adds c a
  adds c unmarked = adds-by c true _ refl
  adds c marked = adds-by c false _ refl
  adds c (refused r) = no_instant (λ t. refl) (λ ts. refl) (λ ps. refl)

  -- The packets of a flow in two parts.
  add-append : (c : Call) (a : Answer) (ps qs : List Passed) → Adds c a → add_own f c a (ps ++ qs) ≡ add_own f c a ps ++ qs
  add-append c a ps qs (no_instant l i o) = rw (o (ps ++ qs), o ps)
  add-append c a ps qs (other l i o) = rw (o (ps ++ qs), o ps)
  add-append c a ps qs (its_own l i p e o) = rw (o (ps ++ qs), o ps)

  pub own-append : (gs hs : List Told) → of_flow f (gs ++ hs) ≡ of_flow f gs ++ of_flow f hs
  own-append [] hs = refl
  own-append (g ∷ gs) hs =
      ap (add_own f g.call g.answer) (own-append gs hs)
      ∙ add-append g.call g.answer (of_flow f gs) (of_flow f hs) (adds g.call g.answer)
