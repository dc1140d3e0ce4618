-- What an opening gives, whatever was asked for. Assumes nothing.
use Rattle.std.specs.Prelude.{◌≡◌, ◌↔◌, List, ℕ, ◌≤◌, ◌<◌, length, get_or}
use Rattle.marker_flows.specs.declared.Flow.{Flow}
use Rattle.marker_flows.specs.Flows.{flows_most, rate_most, depth_most, no_flow}
use Rattle.marker_rules.specs.Terms.{terms_of}
use Rattle.marker_rules.specs.Step.{fresh}
use Rattle.marker_rules.specs.Open.{opening}

-- A flow whose numbers are in range.
pub record FlowInRange (w : Flow) : Type 0 where
  pub rate_least : 1 ≤ w.rate
  pub rate_most : w.rate ≤ rate_most
  pub depth_least : 1 ≤ w.depth
  pub depth_most : w.depth ≤ depth_most

-- Flows that an opening takes.
pub record InRange (ws : List Flow) : Type 0 where
  pub least : 1 ≤ length ws
  pub most : length ws ≤ flows_most
  pub each : (f : ℕ) → f < length ws → FlowInRange (get_or ws f no_flow)

-- An opening is not refused exactly if its flows are in range.
abbrev pub OpensInRange : Type 0
OpensInRange = (ws : List Flow) → ((opening ws).number ≡ 0) ↔ InRange ws

-- The flows in force are in range, refused or not; they are those asked for unless it is refused; and every bucket is full.
abbrev pub OpensSound : Type 0
OpensSound =
    (ws : List Flow)
    → InRange (opening ws).terms.flows
    × ((opening ws).number ≡ 0 → (opening ws).terms ≡ terms_of ws)
    × ((opening ws).marker ≡ fresh (opening ws).terms)
