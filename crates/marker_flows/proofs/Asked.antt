-- The flows asked for: as many as were counted, and the array's own: no more are asked for than it holds. Assumes nothing.
use mathlib.Core.Path.{◌≡◌, sym, ap, ◌∙◌}
use mathlib.Core.List.{List}
use Prim.Native.Nat.{ℕ, ◌≤◌}
use lib.ListN.{length, get_or, take}
use lib.Seq.{length-take-le}
use Rattle.std.proofs.lemmas.List.{get_or-take}
use Rattle.lists.specs.Rows.{tab}
use Rattle.lists.proofs.Rows.{rows_ext, length-tab, tab-get_or}
use Rattle.marker_flows.specs.declared.Flow.{Flow}
use Rattle.marker_flows.specs.declared.Flows.{Flows}
use Rattle.marker_flows.specs.Flows.{no_flow, first_flows, flows_of}

pub flows_taken : (count : ℕ) (each : List Flow) → count ≤ length each → take count each ≡ first_flows count each
flows_taken count each h =
    let own : tab count (λ k. get_or (take count each) k no_flow) ≡ take count each =
    ap (λ (n : ℕ). tab n (λ k. get_or (take count each) k no_flow)) (sym (length-take-le count each h)) ∙ tab-get_or (take count each) no_flow in
    sym own ∙ rows_ext count _ _ (λ k l. rw (get_or-take count each k no_flow l))

pub flows_counted : (a : Flows) → length (flows_of a) ≡ a.count
flows_counted a = length-tab a.count (λ i. get_or a.each i no_flow)
