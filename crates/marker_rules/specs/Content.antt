-- No fraction of the fill is lost. Assumes nothing.
use Rattle.std.specs.Prelude.{◌≡◌, List, [], ◌∷◌, ℕ, ◌+◌, ◌*◌, ◌-◌, ◌≤◌}
use Rattle.marker_flows.specs.declared.Flow.{Flow}
use Rattle.marker_rules.specs.Terms.{Terms, flow_at}
use Rattle.marker_rules.specs.Bucket.{Bucket, million, top_of, level_of, bucket_then}
use Rattle.marker_rules.specs.Step.{Call, bucket_at, fresh, after}
use Rattle.marker_rules.specs.Told.{Passed, told, of_flow, unmarked_bytes}

-- To look at a bucket on the way changes nothing: so it need be looked at only when its own flow calls.
abbrev pub LookingKeeps : Type 0
LookingKeeps =
    (w : Flow) (b : Bucket) (k t : ℕ)
    → b.looked ≤ k
    → k ≤ t
    → level_of w (record { held = level_of w b k; looked = k }) t ≡ level_of w b t

module _ (w : Flow) where
  -- With none of these packets was a fill cut off by the depth.
  abbrev pub Uncut : Bucket → List Passed → Type 0
  Uncut b [] = Unit {0}
  Uncut b (p ∷ ps) = (b.held + w.rate * (p.at - b.looked) ≤ top_of w) × Uncut (bucket_then w b p.len p.at) ps

-- Over any calls that follow others from opening: where no fill was cut off, what the bucket holds and what was paid since are what it held
-- then and rate times span.
abbrev pub NothingLost : Terms → Type 0
NothingLost σ =
    (before these : List Call) (f : ℕ)
    → Uncut (flow_at σ f) (bucket_at (after σ (fresh σ) before) f) (of_flow f (told σ (after σ (fresh σ) before) these))
    → (bucket_at (after σ (after σ (fresh σ) before) these) f).held
    + million * unmarked_bytes (of_flow f (told σ (after σ (fresh σ) before) these))
    ≡ (bucket_at (after σ (fresh σ) before) f).held
    + (flow_at σ f).rate * ((bucket_at (after σ (after σ (fresh σ) before) these) f).looked - (bucket_at (after σ (fresh σ) before) f).looked)
