-- Why no product needs more than 64 bits, over plain numbers. Assumes nothing.
use mathlib.Core.Path.{◌≡◌}
use Prim.Native.Nat.{ℕ, ◌*◌, ◌≤◌}
use native.Mathlib.Nat.{mul-le-mul, mul-le-mul_right}
use native.Mathlib.Omega.{arith}
use Rattle.marker_rules.specs.Bucket.{filled_to}
use Rattle.marker_flows.specs.Flows.{rate_most}
use Rattle.marker_bucket.specs.Fillable.{top_most, Fillable}

module _ (top held rate span : ℕ) (b : Fillable top held rate) where
  -- A span of at least the most that a bucket holds fills it at any rate.
  pub long_fills : top_most ≤ span → top ≡ filled_to top held rate span
  long_fills h = omega (arith, mul-le-mul_right span b.least)

  -- With any other the product is small.
  pub short-small : span ≤ top_most → rate * span ≤ rate_most * top_most
  short-small h = mul-le-mul b.most h
