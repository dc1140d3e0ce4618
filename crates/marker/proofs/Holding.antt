-- What is read in the words once a packet was accepted. Assumes nothing.
use mathlib.Core.Path.{◌≡◌, refl, sym, ap, ◌∙◌}
use mathlib.Core.Bool.{Bool, true, false}
use Prim.Native.Nat.{ℕ, ◌≤◌, ◌<◌}
use native.Mathlib.Omega.{arith}
use lib.Dec.{eqb}
use lib.ListN.{length, length-set, set}
use lib.Seq.{get_or-set_same, get_or-set_other}
use borrow.Author.Tests.{eqb-true, eqb-false}
use Rattle.marker_flows.specs.declared.Flow.{Flow}
use Rattle.marker_flows.specs.Flows.{flows_most, no_flow}
use Rattle.marker_rules.specs.Terms.{Terms, flow_at}
use Rattle.marker_rules.specs.Bucket.{Bucket, full}
use Rattle.marker_rules.specs.Step.{Marker, bucket_at}
use Rattle.marker.specs.declared.FlowWords.{FlowWords}
use Rattle.marker.specs.Words.{Words, Sized, no_words, clock_in, count_in, rate_in, top_in, holding}
use Rattle.marker.specs.Stands.{FlowStands, Stands}

module _ (w : Words) (f x t : ℕ) where
  -- The flow's words then.
  abbrev then : FlowWords
  then = record { rate = rate_in w f; top = top_in w f; held = x; looked = t }

  held-sized : Sized w → Sized (holding w f x t)
  unfolding holding
  held-sized z = simp length-set z

  held-clock : clock_in (holding w f x t) ≡ t
  unfolding holding
  held-clock = refl

  held-count : count_in (holding w f x t) ≡ count_in w
  unfolding holding
  held-count = refl

  -- Another flow's words.
  other : (g : ℕ) (y : Flow) (b : Bucket) → (g ≡ f → ⊥) → FlowStands w g y b → FlowStands (holding w f x t) g y b
  unfolding holding
  other g y b apart k =
      let same = get_or-set_other w.flows f g then no_words apart in
      record {
        rate = ap (λ (q : FlowWords). q.rate) same ∙ k.rate;
        top = ap (λ (q : FlowWords). q.top) same ∙ k.top;
        held = ap (λ (q : FlowWords). q.held) same ∙ k.held;
        looked = ap (λ (q : FlowWords). q.looked) same ∙ k.looked;
      }

  -- The flow's own words.
  own : Sized w → f < flows_most → (y : Flow) (b c : Bucket) → FlowStands w f y b → c.held ≡ x → c.looked ≡ t
      → FlowStands (holding w f x t) f y c
  unfolding holding
  own z h y b c k d e =
      let now = get_or-set_same w.flows f then no_words (omega arith) in
      record {
        rate = ap (λ (q : FlowWords). q.rate) now ∙ k.rate;
        top = ap (λ (q : FlowWords). q.top) now ∙ k.top;
        held = ap (λ (q : FlowWords). q.held) now ∙ sym d;
        looked = ap (λ (q : FlowWords). q.looked) now ∙ sym e;
      }

-- The words stand for the marker whose clock is t and whose flow f has this bucket.
pub stands-held : (σ : Terms) (w : Words) (s : Marker) (f t : ℕ) (b : Bucket) → Stands σ w s → length s.buckets ≡ length σ.flows
    → f < length σ.flows → length σ.flows ≤ flows_most → b.looked ≡ t
    → Stands σ (holding w f b.held t) (record { clock = t; buckets = set s.buckets f b })
stands-held σ w s f t b k n h m e =
    record {
      sized = held-sized w f b.held t k.sized;
      clock = held-clock w f b.held t;
      count = held-count w f b.held t ∙ k.count;
      flows = λ g l. by g l (eqb g f) refl;
    }
  where
    by : (g : ℕ) → g < length σ.flows → (same : Bool) → eqb g f ≡ same
        → FlowStands (holding w f b.held t) g (flow_at σ g) (bucket_at (record { clock = t; buckets = set s.buckets f b }) g)
    by g l true i =
        let z = eqb-true g f i in
        rw (z, get_or-set_same s.buckets f b (full no_flow) (omega arith))
        (own w f b.held t k.sized (omega arith) (flow_at σ f) (bucket_at s f) b (k.flows f h) refl e)
    by g l false i =
        let apart = eqb-false g f i in
        rw (get_or-set_other s.buckets f g b (full no_flow) apart)
        (other w f b.held t g (flow_at σ g) (bucket_at s g) apart (k.flows g l))
