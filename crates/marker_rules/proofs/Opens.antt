-- An opening's flows are in range: those asked for, or the least. Assumes nothing.
use mathlib.Core.Path.{◌≡◌, refl}
use mathlib.Core.Bool.{Bool, false, not}
use mathlib.Core.List.{List, [], ◌∷◌}
use mathlib.Core.Option.{Option, none, some}
use Prim.Native.Nat.{ℕ, zero, suc, ◌≤◌, ◌<◌}
use native.Mathlib.Omega.{arith}
use lib.Dec.{leb}
use lib.ListN.{length, get_or}
use borrow.Author.Tests.{leb-true, not-false, le-leb}
use Rattle.std.specs.List.{list_any}
use Rattle.std.proofs.lemmas.Bool.{or_parts}
use Rattle.std.proofs.lemmas.List.Elements.{All-from_get_or}
use Rattle.std.proofs.lemmas.List.Folds.{list_any_none}
use Rattle.refusals.specs.declared.Refusal.{Refusal}
use Rattle.refusals.specs.First.{first_refusal}
use Rattle.refusals.proofs.Laws.{passes, both, number-none}
use Rattle.units.specs.Limits.{in_range}
use Rattle.marker_flows.specs.declared.Flow.{Flow}
use Rattle.marker_flows.specs.Flows.{flows_most, rate_most, depth_most, rate_out, depth_out, open_tests, least_flow, no_flow}
use Rattle.marker_rules.specs.Terms.{terms_of}
use Rattle.marker_rules.specs.Step.{fresh}
use Rattle.marker_rules.specs.Open.{opened}
use Rattle.marker_rules.specs.Opened.{InRange, OpensInRange, OpensSound}

-- A number that is not out of range is in it.
within : (most x : ℕ) → not (in_range 1 most x) ≡ false → (1 ≤ x) × (x ≤ most)
within most x e =
    let k = both (leb 1 x) (leb x most) (not-false (in_range 1 most x) e) in
    (leb-true 1 x k.0, leb-true x most k.1)

inside : (most x : ℕ) → 1 ≤ x → x ≤ most → not (in_range 1 most x) ≡ false
inside most x l m = rw (le-leb 1 x l, le-leb x most m)

-- None of the flows is out of range.
none_out : (out : Flow → Bool) (ws : List Flow) (f : ℕ) → list_any out ws ≡ false → f < length ws → out (get_or ws f no_flow) ≡ false
none_out out [] f e h = absurd (omega arith)
none_out out (w ∷ ws) zero e h = (or_parts (out w) (list_any out ws) e).0
none_out out (w ∷ ws) (suc f) e h = none_out out ws f (or_parts (out w) (list_any out ws) e).1 (omega arith)

all_in : (out : Flow → Bool) (ws : List Flow) → ((f : ℕ) → f < length ws → out (get_or ws f no_flow) ≡ false) → list_any out ws ≡ false
all_in out ws h = list_any_none out ws (All-from_get_or (λ (w : Flow). out w ≡ false) ws no_flow h)

pub in_range_lem : (ws : List Flow) → first_refusal (open_tests ws) ≡ none → InRange ws
in_range_lem ws e =
    let p = passes (open_tests ws) e in
    let n = within flows_most (length ws) p.0 in
    record {
      least = n.0;
      most = n.1;
      each = λ f h.
          let r = within rate_most (get_or ws f no_flow).rate (none_out rate_out ws f p.1.0 h) in
          let d = within depth_most (get_or ws f no_flow).depth (none_out depth_out ws f p.1.1.0 h) in
          record { rate_least = r.0; rate_most = r.1; depth_least = d.0; depth_most = d.1 };
    }

not_refused : (ws : List Flow) → InRange ws → first_refusal (open_tests ws) ≡ none
not_refused ws k =
    rw (
      inside flows_most (length ws) k.least k.most,
      all_in rate_out ws (λ f h. inside rate_most (get_or ws f no_flow).rate (k.each f h).rate_least (k.each f h).rate_most),
      all_in depth_out ws (λ f h. inside depth_most (get_or ws f no_flow).depth (k.each f h).depth_least (k.each f h).depth_most),
    )

-- An opening is not refused exactly if its number is 0.
number-zero : (ws : List Flow) (o : Option Refusal) → (opened o ws).number ≡ 0 → o ≡ none
number-zero ws none z = refl
number-zero ws (some r) z = number-none (some r) z

zero_number : (ws : List Flow) (o : Option Refusal) → o ≡ none → (opened o ws).number ≡ 0
zero_number ws o e = rw e

pub opens_in_range : OpensInRange
opens_in_range ws = ((λ z. in_range_lem ws (number-zero ws _ z)), (λ k. zero_number ws (first_refusal (open_tests ws)) (not_refused ws k)))

least_in_range : InRange (least_flow ∷ [])
least_in_range =
    record {
      least = omega arith;
      most = omega arith;
      each = λ f h.
          let z : f ≡ 0 = omega arith in
          rw z (record { rate_least = omega arith; rate_most = omega arith; depth_least = omega arith; depth_most = omega arith });
    }

ranges : (ws : List Flow) (o : Option Refusal) → first_refusal (open_tests ws) ≡ o → InRange (opened o ws).terms.flows
ranges ws none e = in_range_lem ws e
ranges ws (some r) e = least_in_range

asked : (ws : List Flow) (o : Option Refusal) → (opened o ws).number ≡ 0 → (opened o ws).terms ≡ terms_of ws
asked ws o z = rw (number-zero ws o z)

filled : (ws : List Flow) (o : Option Refusal) → (opened o ws).marker ≡ fresh (opened o ws).terms
filled ws none = refl
filled ws (some r) = refl

pub opens-sound : OpensSound
opens-sound ws = (ranges ws _ refl, asked ws _, filled ws (first_refusal (open_tests ws)))
