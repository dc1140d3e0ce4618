-- A flow by itself: its bucket and its own packets decide its answers. Assumes nothing.
use Rattle.std.specs.Prelude.{◌≡◌, List, [], ◌∷◌, map, ℕ, ◌≤◌}
use Rattle.marker_flows.specs.declared.Flow.{Flow}
use Rattle.marker_rules.specs.Terms.{Terms, flow_at}
use Rattle.marker_rules.specs.Bucket.{Bucket, holds, bucket_then}
use Rattle.marker_rules.specs.Step.{Call, bucket_at, fresh, after}
use Rattle.marker_rules.specs.Told.{Passed, told, of_flow}

module _ (w : Flow) where
  -- These packets, with whether each was left unmarked, are what one bucket by itself makes of them; their instants never go back.
  abbrev pub Alone : Bucket → List Passed → Type 0
  Alone b [] = Unit {0}
  Alone b (p ∷ ps) = (b.looked ≤ p.at) × (p.unmarked ≡ holds w b p.len p.at) × Alone (bucket_then w b p.len p.at) ps

  -- The bucket after them.
  abbrev pub bucket_after : Bucket → List Passed → Bucket
  bucket_after b [] = b
  bucket_after b (p ∷ ps) = bucket_after (bucket_then w b p.len p.at) ps

-- A packet without its answer.
pub record Packet : Type 0 where
  pub len : ℕ
  pub at : ℕ

abbrev pub packet_of : Passed → Packet
packet_of p = record { len = p.len; at = p.at }

-- Over every list of calls from opening, a flow's answers and its bucket are those of the flow by itself.
pub record ByItself (σ : Terms) (cs : List Call) (f : ℕ) : Type 0 where
  pub answers : Alone (flow_at σ f) (bucket_at (fresh σ) f) (of_flow f (told σ (fresh σ) cs))
  pub bucket : bucket_at (after σ (fresh σ) cs) f ≡ bucket_after (flow_at σ f) (bucket_at (fresh σ) f) (of_flow f (told σ (fresh σ) cs))

-- Two runs, of whatever other flows and limits, in which one flow has the same rate and depth and the same accepted packets give it the same
-- answers.
abbrev pub SameAnswers : Type 0
SameAnswers =
    (σ τ : Terms) (cs ds : List Call) (f : ℕ)
    → flow_at σ f ≡ flow_at τ f
    → map packet_of (of_flow f (told σ (fresh σ) cs)) ≡ map packet_of (of_flow f (told τ (fresh τ) ds))
    → of_flow f (told σ (fresh σ) cs) ≡ of_flow f (told τ (fresh τ) ds)
