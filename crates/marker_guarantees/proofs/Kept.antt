-- The code's answers are the rules', so what holds of these holds of them. Assumes nothing.
use mathlib.Core.Path.{◌≡◌, subst⁻¹}
use mathlib.Core.List.{List}
use Prim.Native.Nat.{ℕ}
use Rattle.marker_flows.specs.declared.Flow.{Flow}
use Rattle.marker_rules.specs.Terms.{flow_at}
use Rattle.marker_rules.specs.Bucket.{Bucket}
use Rattle.marker_rules.specs.Step.{bucket_at, fresh, after}
use Rattle.marker_rules.specs.Told.{Told}
use Rattle.marker_rules.specs.Promises.{Keeps}
use Rattle.marker_rules.proofs.Apart.{same-answers}
use Rattle.marker_rules.proofs.Content.{nothing_lost_lem}
use Rattle.marker_rules.proofs.Keeps.{keeps}
use Rattle.marker.specs.Words.{Words}
use Rattle.marker.specs.Calls.{open_words}
use Rattle.marker.specs.Machine.{words_after, in_force}
use Rattle.marker.specs.Stands.{FlowStands}
use Rattle.marker.proofs.Follows.{all-faithful, fit-after, told-from, stands_from}
use Rattle.marker_guarantees.specs.Kept.{Bounds, SameMarkings, bucket_in, ContentExact}

pub bounds : Bounds
bounds asked lent z cs =
    subst⁻¹ (λ (hs : List Told). Keeps (in_force asked) hs) (all-faithful asked lent z cs).told (keeps (in_force asked) cs)

pub same_markings : SameMarkings
same_markings asked asked' lent lent' z z' cs ds f e h =
    let a = (all-faithful asked lent z cs).told in
    let b = (all-faithful asked' lent' z' ds).told in
    rw (a, b) (same-answers (in_force asked) (in_force asked') cs ds f e (rw (a, b) at h))

-- A bucket in the words is the rules'.
same-bucket : (b : Bucket) (w : Words) (f : ℕ) (x : Flow) → FlowStands w f x b → bucket_in w f ≡ b
same-bucket b w f x k = rw (k.held, k.looked)

pub content_exact : ContentExact
content_exact asked lent z before these f o u =
    let σ = in_force asked in
    let w = words_after (open_words asked lent) before in
    let s = after σ (fresh σ) before in
    let k = (all-faithful asked lent z before).stands in
    let t = told-from σ w s these k (fit-after asked before) in
    let v = stands_from σ w s these k (fit-after asked before) in
    let b = k.flows f o in
    let d = v.flows f o in
    rw (t, b.held, b.rate, b.looked, d.held, d.looked)
    (nothing_lost_lem σ before these f (rw (t, same-bucket (bucket_at s f) w f (flow_at σ f) b) at u))
