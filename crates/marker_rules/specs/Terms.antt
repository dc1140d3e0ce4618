-- What the marker's rules take from outside: the flows that were opened, and the limits. Assumes nothing.
use Rattle.std.specs.Prelude.{List, ℕ, get_or}
use Rattle.units.specs.Limits.{length_most, instant_most}
use Rattle.marker_flows.specs.declared.Flow.{Flow}
use Rattle.marker_flows.specs.Flows.{no_flow}

-- Every theorem holds for any flows and limits. The flows are numbered from 0 in their order.
pub record Terms : Type 0 where
  pub flows : List Flow
  -- the longest packet, in bytes
  pub longest : ℕ
  -- the latest instant
  pub latest : ℕ

-- Flow f of them.
abbrev pub flow_at : Terms → (f : ℕ) → Flow
flow_at σ f = get_or σ.flows f no_flow

-- Document 01's limits with these flows.
abbrev pub terms_of : List Flow → Terms
terms_of ws = record { flows = ws; longest = length_most; latest = instant_most }
