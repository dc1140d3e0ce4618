-- One call: how it moves the marker, and what one flow sees of it. Assumes nothing.
use mathlib.Core.Path.{◌≡◌, refl, sym, ap, ◌∙◌}
use mathlib.Core.Bool.{Bool, true, false}
use mathlib.Core.List.{List, [], ◌∷◌}
use mathlib.Core.Option.{Option, none, some}
use Prim.Native.Nat.{ℕ, ◌≤◌, ◌<◌}
use native.Mathlib.Omega.{arith}
use lib.Dec.{eqb}
use lib.ListN.{length, length-set, length-map, get_or-map}
use lib.Seq.{get_or-set_same, get_or-set_other}
use borrow.Author.Tests.{ltb-false, leb-false, eqb-true, eqb-false}
use Rattle.refusals.specs.declared.Refusal.{Refusal}
use Rattle.refusals.specs.First.{first_refusal}
use Rattle.refusals.proofs.Laws.{passes}
use Rattle.marker_flows.specs.Flows.{no_flow}
use Rattle.marker_rules.specs.Terms.{Terms, flow_at}
use Rattle.marker_rules.specs.Bucket.{top_of, full, holds, bucket_then}
use Rattle.marker_rules.specs.Step.{Call, Answer, Marker, Outcome, bucket_at, refusal, answer_by, fresh, tests_of, accepted, answering, step, after}
use Rattle.marker_rules.specs.Told.{Passed, passed, add_own}
use Rattle.marker_rules.proofs.Laws.{looked_then, held_then_lem}

module _ (σ : Terms) where
  -- What is known of a packet that no test refuses.
  pub record Accepted (s : Marker) (c : Call) : Type 0 where
    pub opened : c.flow < length σ.flows
    pub onward : s.clock ≤ c.at

  -- The two moves of the marker.
  pub data Move (s : Marker) (c : Call) : Outcome → Type 0 where
    refuses : (r : Refusal) → Move s c (refusal s r)
    accepts : Accepted s c → Move s c (accepted σ s c)

  move-by : (s : Marker) (c : Call) (o : Option Refusal) → first_refusal (tests_of σ s c) ≡ o → Move s c (answering σ o s c)
  move-by s c none e =
      let p = passes (tests_of σ s c) e in
      accepts (record { opened = leb-false _ _ p.0; onward = ltb-false _ _ p.1.1.1.0 })
  move-by s c (some r) e = refuses r

  pub move : (s : Marker) (c : Call) → Move s c (step σ s c)
  unfolding step
  move s c = move-by s c _ refl

  module _ (f : ℕ) where
    -- What lasts: there is a bucket for each flow, it holds at most its depth, and no look at it is after the clock.
    pub record Lasting (s : Marker) : Type 0 where
      pub counted : length s.buckets ≡ length σ.flows
      pub most : (bucket_at s f).held ≤ top_of (flow_at σ f)
      pub past : (bucket_at s f).looked ≤ s.clock

    -- What flow f sees of a call: nothing, or a packet of its own.
    pub data Turn (s s' : Marker) (c : Call) (a : Answer) : Type 0 where
      aside : s.clock ≤ s'.clock → bucket_at s' f ≡ bucket_at s f → ((ps : List Passed) → add_own f c a ps ≡ ps) → Turn s s' c a
      own : s.clock ≤ c.at → s'.clock ≡ c.at → bucket_at s' f ≡ bucket_then (flow_at σ f) (bucket_at s f) c.len c.at
          → ((ps : List Passed) → add_own f c a ps ≡ passed c (holds (flow_at σ f) (bucket_at s f) c.len c.at) ∷ ps) → Turn s s' c a

    -- An accepted packet of another flow, and of this one.
    other-adds : (c : Call) (b : Bool) → eqb c.flow f ≡ false → (ps : List Passed) → add_own f c (answer_by b) ps ≡ ps
    other-adds c true e ps = rw e
    other-adds c false e ps = rw e

    own-adds : (c : Call) (b : Bool) → eqb c.flow f ≡ true → (ps : List Passed) → add_own f c (answer_by b) ps ≡ passed c b ∷ ps
    own-adds c true e ps = rw e
    own-adds c false e ps = rw e

    accepted-turn : (s : Marker) (c : Call) (b : Bool) → eqb c.flow f ≡ b → Lasting s → Accepted s c
        → Turn s (accepted σ s c).marker c (accepted σ s c).answer
    accepted-turn s c false e k a =
        let apart = eqb-false c.flow f e in
        aside a.onward (get_or-set_other s.buckets c.flow f _ (full no_flow) (λ e. apart (sym e)))
        (other-adds c (holds (flow_at σ c.flow) (bucket_at s c.flow) c.len c.at) e)
    accepted-turn s c true e k a =
        let same = eqb-true c.flow f e in
        let x = bucket_then (flow_at σ c.flow) (bucket_at s c.flow) c.len c.at in
        let then : bucket_at (accepted σ s c).marker c.flow ≡ x = get_or-set_same s.buckets c.flow x (full no_flow) (omega (arith, k.counted, a.opened)) in
        own a.onward refl
        (ap (bucket_at (accepted σ s c).marker) (sym same) ∙ then ∙ ap (λ (g : ℕ). bucket_then (flow_at σ g) (bucket_at s g) c.len c.at) same)
        (λ ps. own-adds c (holds (flow_at σ c.flow) (bucket_at s c.flow) c.len c.at) e ps
        ∙ ap (λ (g : ℕ). passed c (holds (flow_at σ g) (bucket_at s g) c.len c.at) ∷ ps) same)

    turn_of : (s : Marker) (c : Call) {o : Outcome} → Lasting s → Move s c o → Turn s o.marker c o.answer
    turn_of s c k (refuses r) = aside (omega arith) refl (λ ps. refl)
    turn_of s c k (accepts a) = accepted-turn s c _ refl k a

    pub turn : (s : Marker) (c : Call) → Lasting s → Turn s (step σ s c).marker c (step σ s c).answer
    turn s c k = turn_of s c k (move s c)

    counted_step : (s : Marker) (c : Call) {o : Outcome} → Move s c o → length o.marker.buckets ≡ length s.buckets
    counted_step s c (refuses r) = refl
    counted_step s c (accepts a) = length-set s.buckets c.flow _

    lasting-by : (s s' : Marker) (c : Call) (a : Answer) → length s'.buckets ≡ length s.buckets → Lasting s → Turn s s' c a → Lasting s'
    lasting-by s s' c a n k (aside o e i) =
        record { counted = n ∙ k.counted; most = rw e k.most; past = rw e (omega (arith, k.past, o)) }
    lasting-by s s' c a n k (own o t e i) =
        let l = looked_then (flow_at σ f) (bucket_at s f) c.len c.at in
        record {
          counted = n ∙ k.counted;
          most = rw e (held_then_lem (flow_at σ f) (bucket_at s f) c.len c.at);
          past = rw e (omega (arith, l, t));
        }

    pub lasting-step : (s : Marker) (c : Call) → Lasting s → Lasting (step σ s c).marker
    lasting-step s c k = lasting-by s (step σ s c).marker c (step σ s c).answer (counted_step s c (move s c)) k (turn s c k)

    pub lasting-after : (s : Marker) (cs : List Call) → Lasting s → Lasting (after σ s cs)
    unfolding after
    lasting-after s [] k = k
    lasting-after s (c ∷ cs) k = lasting-after (step σ s c).marker cs (lasting-step s c k)

    -- Every bucket is full at opening.
    pub fresh-bucket : bucket_at (fresh σ) f ≡ full (flow_at σ f)
    fresh-bucket = get_or-map full σ.flows f no_flow

    pub lasting-fresh : Lasting (fresh σ)
    lasting-fresh =
        record {
          counted = length-map σ.flows full;
          most = rw fresh-bucket (omega arith);
          past = rw fresh-bucket (omega arith);
        }
