-- The marker's promises, over every list of calls from opening, refused calls included. Assumes nothing.
use Rattle.std.specs.Prelude.{◌≡◌, false, ◌↔◌, List, ℕ, ◌≤◌, ◌<◌}
use Rattle.refusals.specs.declared.Refusal.{Refusal}
use Rattle.marker_flows.specs.declared.Flow.{Flow}
use Rattle.marker_rules.specs.Terms.{Terms, flow_at}
use Rattle.marker_rules.specs.Bucket.{Bucket, top_of, holds}
use Rattle.marker_rules.specs.Step.{Call, refused, Marker, bucket_at, fresh, step, after}
use Rattle.marker_rules.specs.Told.{Told, told, Onward, of_flow}
use Rattle.marker_rules.specs.Apart.{ByItself}
use Rattle.marker_rules.specs.Stretches.{Bounded, OwnBounded, MarksExactly}
use Rattle.marker_rules.specs.Content.{NothingLost}

-- What some calls with their answers keep to, for every flow: the bound, and that nothing is marked without need.
pub record Keeps (σ : Terms) (hs : List Told) : Type 0 where
  pub bounded : (f : ℕ) → Bounded (flow_at σ f) f hs
  pub own_bounded : (f : ℕ) → OwnBounded (flow_at σ f) (of_flow f hs)
  pub exactly : (f : ℕ) → MarksExactly (flow_at σ f) (of_flow f hs)

-- A packet is marked whatever the bucket holds exactly if it is longer than the depth.
abbrev pub LongIsMarked : Type 0
LongIsMarked = (w : Flow) (len : ℕ) → ((b : Bucket) (t : ℕ) → holds w b len t ≡ false) ↔ (w.depth < len)

module _ (σ : Terms) where
  -- A refused call changes nothing.
  abbrev pub RefusalKeeps : Type 0
  RefusalKeeps = (s : Marker) (c : Call) (r : Refusal) → (step σ s c).answer ≡ refused r → (step σ s c).marker ≡ s

  -- A bucket never holds more than its depth, and was last looked at no later than the clock.
  abbrev pub BucketsSound : Type 0
  BucketsSound =
      (cs : List Call) (f : ℕ)
      → ((bucket_at (after σ (fresh σ) cs) f).held ≤ top_of (flow_at σ f)) × ((bucket_at (after σ (fresh σ) cs) f).looked ≤ (after σ (fresh σ) cs).clock)

  -- All of it.
  pub record MarkerKeeps : Type 0 where
    -- no accepted call is before another, so no span is cut off
    pub onward : (cs : List Call) → Onward 0 (told σ (fresh σ) cs)
    pub keeps : (cs : List Call) → Keeps σ (told σ (fresh σ) cs)
    pub by_itself : (cs : List Call) (f : ℕ) → ByItself σ cs f
    pub nothing_lost : NothingLost σ
    pub refusal : RefusalKeeps
    pub sound : BucketsSound
