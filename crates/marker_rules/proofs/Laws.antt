-- Laws of filling, over plain numbers, and of a bucket that a packet comes to. Assumes nothing.
use mathlib.Core.Path.{◌≡◌, refl, ap, ◌∙◌}
use mathlib.Core.Bool.{Bool, true, false}
use Prim.Native.Nat.{ℕ, ◌+◌, ◌*◌, ◌-◌, ◌≤◌}
use native.Mathlib.Nat.{mul-add, mul-zero}
use native.Mathlib.Omega.{arith}
use borrow.Author.Tests.{leb-true}
use Rattle.marker_flows.specs.declared.Flow.{Flow}
use Rattle.marker_rules.specs.Bucket.{Bucket, million, top_of, level_of, holds, taken_by, bucket_then}
use Rattle.marker_rules.specs.Told.{only_if}
use Rattle.marker_rules.specs.Content.{LookingKeeps}

-- What flows in over two spans, one after the other.
pub inflow : (r l k t : ℕ) → l ≤ k → k ≤ t → r * (t - l) ≡ r * (k - l) + r * (t - k)
inflow r l k t h i =
    let e : t - l ≡ (k - l) + (t - k) = omega arith in
    ap (λ (n : ℕ). r * n) e ∙ mul-add r (k - l) (t - k)

-- Over no span nothing flows in.
pub no_inflow : (r t : ℕ) → r * (t - t) ≡ 0
no_inflow r t =
    let e : t - t ≡ 0 = omega arith in
    ap (λ (n : ℕ). r * n) e ∙ mul-zero r

pub looking_keeps : LookingKeeps
looking_keeps w b k t h i = omega (arith, inflow w.rate b.looked k t h i)

module _ (w : Flow) (b : Bucket) (len t : ℕ) where
  -- What the bucket then holds and what was paid make its level, by the test's value.
  paid-by : (x : Bool) → holds w b len t ≡ x → (taken_by x (level_of w b t) len t).held + million * only_if x len ≡ level_of w b t
  paid-by true e = omega (arith, leb-true)
  paid-by false e = omega arith

  pub paid : (bucket_then w b len t).held + million * only_if (holds w b len t) len ≡ level_of w b t
  paid = paid-by _ refl

  looked-by : (x : Bool) → (taken_by x (level_of w b t) len t).looked ≡ t
  looked-by true = refl
  looked-by false = refl

  -- It was looked at now.
  pub looked_then : (bucket_then w b len t).looked ≡ t
  looked_then = looked-by (holds w b len t)

  -- It never holds more than its depth.
  pub held_then_lem : (bucket_then w b len t).held ≤ top_of w
  held_then_lem = omega (arith, paid)
