-- When words stand for a marker of the rules. Assumes nothing.
use Rattle.std.specs.Prelude.{◌≡◌, ℕ, ◌<◌, length}
use Rattle.marker_flows.specs.declared.Flow.{Flow}
use Rattle.marker_rules.specs.Terms.{Terms, flow_at}
use Rattle.marker_rules.specs.Bucket.{Bucket, top_of}
use Rattle.marker_rules.specs.Step.{Marker, bucket_at}
use Rattle.marker.specs.Words.{Words, Sized, clock_in, count_in, rate_in, top_in, held_in, looked_in}

-- The words of flow f are these limits and this bucket.
pub record FlowStands (w : Words) (f : ℕ) (x : Flow) (b : Bucket) : Type 0 where
  pub rate : rate_in w f ≡ x.rate
  pub top : top_in w f ≡ top_of x
  pub held : held_in w f ≡ b.held
  pub looked : looked_in w f ≡ b.looked

-- Clock and count are the rules', and so are the words of every flow that was opened. Nothing is said of the others.
pub record Stands (σ : Terms) (w : Words) (s : Marker) : Type 0 where
  pub sized : Sized w
  pub clock : clock_in w ≡ s.clock
  pub count : count_in w ≡ length σ.flows
  pub flows : (f : ℕ) → f < length σ.flows → FlowStands w f (flow_at σ f) (bucket_at s f)
