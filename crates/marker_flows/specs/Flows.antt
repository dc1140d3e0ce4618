-- Flows with their limits, and the refusals of an opening. Assumes nothing.
use Rattle.std.specs.Prelude.{Bool, not, List, [], ◌∷◌, ℕ, length, get_or}
use Rattle.std.specs.List.{list_any}
use Rattle.refusals.specs.declared.Refusal.{Refusal}
use Rattle.refusals.specs.First.{Test}
use Rattle.units.specs.Limits.{in_range}
use Rattle.lists.specs.Rows.{tab}
use Rattle.marker_flows.specs.declared.Flow.{Flow}
use Rattle.marker_flows.specs.declared.Flows.{Flows}

-- There are 1 to 8 flows.
abbrev pub flows_most : ℕ
flows_most = 8

-- A rate is 1 to 10,000,000 bytes per 1,000,000 ticks.
abbrev pub rate_most : ℕ
rate_most = 10_000_000

-- A depth is 1 to 65,535 bytes.
abbrev pub depth_most : ℕ
depth_most = 65_535

-- Its rate is out of range, or its depth.
abbrev pub rate_out : Flow → Bool
rate_out w = not (in_range 1 rate_most w.rate)

abbrev pub depth_out : Flow → Bool
depth_out w = not (in_range 1 depth_most w.depth)

-- 52 if any rate is out of range, then 53 if any depth is.
abbrev pub limit_tests : List Flow → List Test
limit_tests ws = record { refusal = Refusal.Rate; holds = list_any rate_out ws } ∷ record { refusal = Refusal.Depth; holds = list_any depth_out ws } ∷ []

-- Refusals of an opening: 51 no flow or more than 8, then 52 and 53.
abbrev pub open_tests : List Flow → List Test
open_tests ws = record { refusal = Refusal.Flow; holds = not (in_range 1 flows_most (length ws)) } ∷ limit_tests ws

-- A flow at its least: what a refused opening opens.
abbrev pub least_flow : Flow
least_flow = record { rate = 1; depth = 1 }

-- Where there is no flow.
abbrev pub no_flow : Flow
no_flow = record { rate = 0; depth = 0 }

-- So many flows from the front of an array.
abbrev pub first_flows : (count : ℕ) → List Flow → List Flow
first_flows count each = tab count (λ i. get_or each i no_flow)

-- The flows asked for.
abbrev pub flows_of : Flows → List Flow
flows_of a = first_flows a.count a.each
