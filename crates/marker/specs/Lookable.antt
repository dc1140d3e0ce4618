-- What a flow's words keep to where its bucket is looked at, so that no number wraps. Assumes nothing.
use Rattle.std.specs.Prelude.{ℕ, ◌≤◌, ◌<◌}
use Rattle.marker_flows.specs.Flows.{flows_most}
use Rattle.marker_bucket.specs.Fillable.{Fillable}
use Rattle.marker.specs.Words.{Words, rate_in, top_in, held_in, looked_in}

-- Flow f has words, its bucket can be filled, and t is not before its last look.
pub record Lookable (w : Words) (f t : ℕ) : Type 0 where
  pub below : f < flows_most
  pub fillable : Fillable (top_in w f) (held_in w f) (rate_in w f)
  pub past : looked_in w f ≤ t
