-- What a bucket's numbers keep to, so that 64 bits hold every product. Assumes nothing.
use Rattle.std.specs.Prelude.{ℕ, ◌*◌, ◌≤◌}
use Rattle.marker_flows.specs.Flows.{rate_most, depth_most}
use Rattle.marker_rules.specs.Bucket.{million}

-- The most that a bucket holds, in millionths of a byte.
abbrev pub top_most : ℕ
top_most = million * depth_most

-- A bucket of a flow whose numbers are in range.
pub record Fillable (top held rate : ℕ) : Type 0 where
  pub small : top ≤ top_most
  pub within : held ≤ top
  pub least : 1 ≤ rate
  pub most : rate ≤ rate_most
