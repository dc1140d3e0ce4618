-- The bound for every stretch of a flow's own packets. Assumes nothing.
use mathlib.Core.Path.{ap}
use mathlib.Core.Bool.{Bool}
use mathlib.Core.List.{List, [], ◌∷◌, ◌++◌}
use Prim.Native.Nat.{◌+◌, ◌*◌, ◌-◌, ◌≤◌}
use native.Mathlib.Omega.{arith}
use Rattle.marker_flows.specs.declared.Flow.{Flow}
use Rattle.marker_rules.specs.Bucket.{Bucket, million, level_of, bucket_then}
use Rattle.marker_rules.specs.Told.{Passed, last_of, only_if, unmarked_bytes, instants_of}
use Rattle.marker_rules.specs.Apart.{Alone, bucket_after}
use Rattle.marker_rules.specs.Stretches.{Within, OwnBounded}
use Rattle.marker_rules.proofs.Laws.{inflow, paid, looked_then}
use Rattle.marker_rules.proofs.Alone.{alone-first, alone_rest}

module _ (w : Flow) where
  -- From a bucket on, no more leaves than it held and what flows in until the last packet.
  abbrev Covers : Bucket → List Passed → Type 0
  Covers b ps =
      (b.looked ≤ last_of b.looked (instants_of ps))
      × (million * unmarked_bytes ps ≤ b.held + w.rate * (last_of b.looked (instants_of ps) - b.looked))

  -- With one packet in front: from its instant on, no more leaves than the level then and what flows in.
  abbrev FromLevel : Bucket → Passed → List Passed → Type 0
  FromLevel b p ps =
      (p.at ≤ last_of p.at (instants_of ps))
      × (million * unmarked_bytes (p ∷ ps) ≤ level_of w b p.at + w.rate * (last_of p.at (instants_of ps) - p.at))

  from_level : (b : Bucket) (p : Passed) (ps : List Passed) → Alone w b (p ∷ ps) → Covers (bucket_then w b p.len p.at) ps → FromLevel b p ps
  from_level b p ps a k =
      let l = looked_then w b p.len p.at in
      let j = rw l at k in
      let e = paid w b p.len p.at in
      let u = ap (λ (x : Bool). only_if x p.len) a.1 in
      omega (arith, j, e, u)

  covers : (b : Bucket) (ps : List Passed) → Alone w b ps → Covers b ps
  covers b [] a = omega arith
  covers b (p ∷ ps) a =
      let k = from_level b p ps a (covers (bucket_then w b p.len p.at) ps a.2) in
      omega (arith, inflow w.rate b.looked p.at (last_of p.at (instants_of ps)) a.0 k.0)

  -- At its first packet the bucket holds at most its depth.
  within : (b : Bucket) (ps : List Passed) → Alone w b ps → Within w (unmarked_bytes ps) (instants_of ps)
  within b [] a = omega arith
  within b (p ∷ ps) a =
      let k = from_level b p ps a (covers (bucket_then w b p.len p.at) ps a.2) in
      omega arith

  pub own-bounded : (b : Bucket) (ps : List Passed) → Alone w b ps → OwnBounded w ps
  own-bounded b ps a before these later e =
      let whole : Alone w b (before ++ (these ++ later)) = rw (← e) a in
      within (bucket_after w b before) these (alone-first w (bucket_after w b before) these later (alone_rest w b before (these ++ later) whole))
