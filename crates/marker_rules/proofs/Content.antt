-- Where no fill was cut off, held and paid are what was held and what flowed in. Assumes nothing.
use mathlib.Core.Path.{◌≡◌, ap}
use mathlib.Core.Bool.{Bool}
use mathlib.Core.List.{List, [], ◌∷◌}
use Prim.Native.Nat.{◌+◌, ◌*◌, ◌-◌, ◌≤◌}
use native.Mathlib.Omega.{arith}
use Rattle.marker_flows.specs.declared.Flow.{Flow}
use Rattle.marker_rules.specs.Terms.{Terms, flow_at}
use Rattle.marker_rules.specs.Bucket.{Bucket, million, bucket_then}
use Rattle.marker_rules.specs.Step.{bucket_at, fresh, after}
use Rattle.marker_rules.specs.Told.{Passed, told, of_flow, only_if, unmarked_bytes}
use Rattle.marker_rules.specs.Apart.{Alone, bucket_after}
use Rattle.marker_rules.specs.Content.{Uncut, NothingLost}
use Rattle.marker_rules.proofs.Laws.{inflow, no_inflow, paid, looked_then}
use Rattle.marker_rules.proofs.Turns.{lasting-fresh, lasting-after}
use Rattle.marker_rules.proofs.Apart.{alone, bucket-after}

module _ (w : Flow) where
  abbrev Accounts : (b after : Bucket) → List Passed → Type 0
  Accounts b after ps = (b.looked ≤ after.looked) × (after.held + million * unmarked_bytes ps ≡ b.held + w.rate * (after.looked - b.looked))

  accounts-none : (b : Bucket) → Accounts b b []
  accounts-none b = omega (arith, no_inflow w.rate b.looked)

  accounts : (b : Bucket) (ps : List Passed) → Alone w b ps → Uncut w b ps → Accounts b (bucket_after w b ps) ps
  accounts b [] a u = accounts-none b
  accounts b (p ∷ ps) a u =
      let next = bucket_then w b p.len p.at in
      let l = looked_then w b p.len p.at in
      let k = rw l at (accounts next ps a.2 u.1) in
      let e = paid w b p.len p.at in
      let v = ap (λ (x : Bool). only_if x p.len) a.1 in
      omega (arith, k, e, v, u.0, a.0, inflow w.rate b.looked p.at (bucket_after w next ps).looked a.0 k.0)

pub nothing_lost_lem : (σ : Terms) → NothingLost σ
nothing_lost_lem σ before these f u =
    let s = after σ (fresh σ) before in
    let k = lasting-after σ f (fresh σ) before (lasting-fresh σ f) in
    let e = bucket-after σ f s these k in
    rw e (accounts (flow_at σ f) (bucket_at s f) (of_flow f (told σ s these)) (alone σ f s these k) u).1
