-- What is read in the words that an opening lays. Assumes nothing.
use mathlib.Core.Path.{◌≡◌, refl, subst, ap, ◌∙◌}
use mathlib.Core.List.{List, [], ◌∷◌, ◌++◌}
use Prim.Native.Nat.{ℕ, zero, suc, ◌+◌, ◌≤◌, ◌<◌}
use native.Mathlib.Omega.{arith}
use native.Mathlib.Nat.{add-zero, zero-add, add-suc, suc-add}
use native.Mathlib.Numerals.{add-one}
use lib.ListN.{length, length-set, get_or, set}
use lib.Seq.{get_or-set_same, get_or-set_other}
use Rattle.lists.specs.Rows.{rows}
use Rattle.lists.proofs.Rows.{length-tab}
use Rattle.marker_flows.specs.declared.Flow.{Flow}
use Rattle.marker_flows.specs.Flows.{flows_most, no_flow, first_flows}
use Rattle.marker_rules.specs.Terms.{terms_of}
use Rattle.marker_rules.specs.Bucket.{full}
use Rattle.marker_rules.specs.Step.{fresh}
use Rattle.marker_rules.proofs.Turns.{fresh-bucket}
use Rattle.marker.specs.declared.FlowWords.{FlowWords}
use Rattle.marker.specs.Words.{Words, Sized, flow_in, no_words, full_words}
use Rattle.marker.specs.Calls.{laid, laid_all}
use Rattle.marker.specs.Stands.{FlowStands, Stands}

-- The words with those of one flow more.
abbrev one : Words → (i : ℕ) → Flow → Words
one w i x = record { clock = w.clock; count = w.count; flows = set w.flows i (full_words x) }

-- The flows one after the other.
laid-append : (w : Words) (i : ℕ) (xs ys : List Flow) → laid w i (xs ++ ys) ≡ laid (laid w i xs) (i + length xs) ys
laid-append w i [] ys = rw (add-zero i)
laid-append w i (x ∷ xs) ys = rw (add-suc i (length xs), ← suc-add i (length xs)) (laid-append (one w i x) (suc i) xs ys)

-- The flows of an array, one by one.
pub laid_none : (w : Words) (each : List Flow) → w ≡ laid w 0 (first_flows 0 each)
unfolding rows
laid_none w each = refl

pub laid_more : (w m : Words) (i : ℕ) (each : List Flow) → m ≡ laid w 0 (first_flows i each)
    → one m i (get_or each i no_flow) ≡ laid w 0 (first_flows (i + 1) each)
unfolding rows
laid_more w m i each e =
    rw (
      e,
      add-one i,
      laid-append w 0 (first_flows i each) (get_or each i no_flow ∷ []),
      zero-add (length (first_flows i each)),
      length-tab i (λ k. get_or each k no_flow),
    )

pub laid_done : (w m : Words) (count i : ℕ) (each : List Flow) → i ≤ count → count ≤ i → m ≡ laid (record { clock = 0; count = count; flows = w.flows }) 0 (first_flows i each)
    → m ≡ laid_all w (first_flows count each)
laid_done w m count i each a b e =
    let same : i ≡ count = omega arith in
    rw (length-tab count (λ k. get_or each k no_flow))
    (e ∙ ap (λ (k : ℕ). laid (record { clock = 0; count = count; flows = w.flows }) 0 (first_flows k each)) same)

laid-length : (w : Words) (i : ℕ) (xs : List Flow) → length (laid w i xs).flows ≡ length w.flows
laid-length w i [] = refl
laid-length w i (x ∷ xs) = laid-length (one w i x) (suc i) xs ∙ simp length-set

laid-clock : (w : Words) (i : ℕ) (xs : List Flow) → (laid w i xs).clock ≡ w.clock
laid-clock w i [] = refl
laid-clock w i (x ∷ xs) = laid-clock (one w i x) (suc i) xs

laid-count : (w : Words) (i : ℕ) (xs : List Flow) → (laid w i xs).count ≡ w.count
laid-count w i [] = refl
laid-count w i (x ∷ xs) = laid-count (one w i x) (suc i) xs

-- The words of the flows before are left as they were.
laid-before : (w : Words) (i : ℕ) (xs : List Flow) (f : ℕ) → f < i → flow_in (laid w i xs) f ≡ flow_in w f
laid-before w i [] f h = refl
laid-before w i (x ∷ xs) f h =
    laid-before (one w i x) (suc i) xs f (omega arith) ∙ get_or-set_other w.flows i f (full_words x) no_words (λ e. omega arith)

-- Each flow's words are its limits and a full bucket.
laid-there : (w : Words) (i : ℕ) (xs : List Flow) (f : ℕ) → f < length xs → i + length xs ≤ length w.flows
    → flow_in (laid w i xs) (i + f) ≡ full_words (get_or xs f no_flow)
laid-there w i [] f h l = absurd (omega arith)
laid-there w i (x ∷ xs) zero h l =
    rw (add-zero i) (laid-before (one w i x) (suc i) xs i (omega arith) ∙ get_or-set_same w.flows i (full_words x) no_words (omega arith))
laid-there w i (x ∷ xs) (suc f) h l =
    rw (add-suc i f, ← suc-add i f) (laid-there (one w i x) (suc i) xs f (omega arith) (simp length-set (omega arith)))

flow-stands : (w : Words) (f : ℕ) (x : Flow) → flow_in w f ≡ full_words x → FlowStands w f x (full x)
flow-stands w f x e =
    record {
      rate = ap (λ (q : FlowWords). q.rate) e;
      top = ap (λ (q : FlowWords). q.top) e;
      held = ap (λ (q : FlowWords). q.held) e;
      looked = ap (λ (q : FlowWords). q.looked) e;
    }

-- They stand for the fresh marker.
pub stands-laid : (w : Words) (xs : List Flow) → Sized w → length xs ≤ flows_most → Stands (terms_of xs) (laid_all w xs) (fresh (terms_of xs))
stands-laid w xs z h =
    let w0 : Words = record { clock = 0; count = length xs; flows = w.flows } in
    record {
      sized = laid-length w0 0 xs ∙ z;
      clock = laid-clock w0 0 xs;
      count = laid-count w0 0 xs;
      flows = λ f l. rw (fresh-bucket (terms_of xs) f)
          (flow-stands (laid_all w xs) f (get_or xs f no_flow)
          (subst (λ (g : ℕ). flow_in (laid_all w xs) g ≡ full_words (get_or xs f no_flow)) (zero-add f)
          (laid-there w0 0 xs f l (omega arith))));
    }
