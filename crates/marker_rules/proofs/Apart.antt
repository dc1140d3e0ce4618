-- A flow's answers and its bucket are those of the flow by itself. Assumes nothing.
use mathlib.Core.Path.{◌≡◌, refl, ◌∙◌}
use mathlib.Core.List.{List, [], ◌∷◌}
use Prim.Native.Nat.{ℕ}
use native.Mathlib.Omega.{arith}
use Rattle.marker_flows.specs.declared.Flow.{Flow}
use Rattle.marker_rules.specs.Terms.{Terms, flow_at}
use Rattle.marker_rules.specs.Bucket.{full}
use Rattle.marker_rules.specs.Step.{Call, Answer, Marker, bucket_at, fresh, step, after}
use Rattle.marker_rules.specs.Told.{Passed, told, add_own, of_flow}
use Rattle.marker_rules.specs.Apart.{Alone, bucket_after, ByItself, SameAnswers}
use Rattle.marker_rules.proofs.Alone.{alone-one}
use Rattle.marker_rules.proofs.Turns.{Lasting, Turn, aside, own, turn, lasting-step, lasting-fresh, fresh-bucket}

module _ (σ : Terms) (f : ℕ) where
  abbrev w : Flow
  w = flow_at σ f

  -- One call more in front.
  alone-turn : (s s' : Marker) (c : Call) (a : Answer) (ps : List Passed) → Lasting σ f s → Turn σ f s s' c a → Alone w (bucket_at s' f) ps
      → Alone w (bucket_at s f) (add_own f c a ps)
  alone-turn s s' c a ps k (aside o e i) h = rw (i ps) (rw e at h)
  alone-turn s s' c a ps k (own o t e i) h = rw (i ps) (omega (arith, k.past, o), refl, rw e at h)

  pub alone : (s : Marker) (cs : List Call) → Lasting σ f s → Alone w (bucket_at s f) (of_flow f (told σ s cs))
  unfolding told
  alone s [] k = tt
  alone s (c ∷ cs) k =
      alone-turn s (step σ s c).marker c (step σ s c).answer (of_flow f (told σ (step σ s c).marker cs)) k (turn σ f s c k)
      (alone (step σ s c).marker cs (lasting-step σ f s c k))

  after_turn : (s s' : Marker) (c : Call) (a : Answer) (ps : List Passed) → Turn σ f s s' c a
      → bucket_after w (bucket_at s' f) ps ≡ bucket_after w (bucket_at s f) (add_own f c a ps)
  after_turn s s' c a ps (aside o e i) = rw (i ps, e)
  after_turn s s' c a ps (own o t e i) = rw (i ps, e)

  pub bucket-after : (s : Marker) (cs : List Call) → Lasting σ f s
      → bucket_at (after σ s cs) f ≡ bucket_after w (bucket_at s f) (of_flow f (told σ s cs))
  unfolding told after
  bucket-after s [] k = refl
  bucket-after s (c ∷ cs) k =
      bucket-after (step σ s c).marker cs (lasting-step σ f s c k)
      ∙ after_turn s (step σ s c).marker c (step σ s c).answer (of_flow f (told σ (step σ s c).marker cs)) (turn σ f s c k)

pub by_itself : (σ : Terms) (cs : List Call) (f : ℕ) → ByItself σ cs f
by_itself σ cs f =
    record { answers = alone σ f (fresh σ) cs (lasting-fresh σ f); bucket = bucket-after σ f (fresh σ) cs (lasting-fresh σ f) }

pub same-answers : SameAnswers
same-answers σ τ cs ds f e h =
    let a = (by_itself σ cs f).answers in
    let b = (by_itself τ ds f).answers in
    alone-one (flow_at σ f) (full (flow_at σ f)) (of_flow f (told σ (fresh σ) cs)) (of_flow f (told τ (fresh τ) ds))
    (rw (fresh-bucket σ f) at a) (rw (e) (rw (fresh-bucket τ f) at b)) h
