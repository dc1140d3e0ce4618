-- The marker keeps its promises, for any flows and limits. Assumes nothing.
use mathlib.Core.Path.{◌≡◌, refl, ap}
use mathlib.Core.Bool.{Bool, true, false}
use mathlib.Core.List.{List}
use Prim.Native.Nat.{ℕ, ◌*◌}
use native.Mathlib.Nat.{mul-zero}
use native.Mathlib.Omega.{arith}
use borrow.Author.Tests.{leb-false, lt-leb}
use Rattle.refusals.specs.declared.Refusal.{Refusal}
use Rattle.marker_rules.specs.Terms.{Terms, flow_at}
use Rattle.marker_rules.specs.Bucket.{Bucket, full, million, level_of, holds}
use Rattle.marker_rules.specs.Step.{Call, refused, Marker, Outcome, bucket_at, answer_by, fresh}
use Rattle.marker_rules.specs.Told.{told, of_flow}
use Rattle.marker_rules.specs.Apart.{Alone}
use Rattle.marker_rules.specs.Stretches.{OwnBounded, MarksExactly}
use Rattle.marker_rules.specs.Promises.{LongIsMarked, Keeps, RefusalKeeps, MarkerKeeps}
use Rattle.marker_rules.proofs.Bound.{own-bounded}
use Rattle.marker_rules.proofs.Need.{marks-exactly}
use Rattle.marker_rules.proofs.Turns.{Move, refuses, accepts, move, fresh-bucket, lasting-fresh, lasting-after}
use Rattle.marker_rules.proofs.Apart.{alone, by_itself}
use Rattle.marker_rules.proofs.Spans.{bounded-by, told-onward}
use Rattle.marker_rules.proofs.Content.{nothing_lost_lem}

pub long-is-marked : LongIsMarked
long-is-marked w len = (
  (λ h. let l = leb-false (million * len) (level_of w (full w) 0) (h (full w) 0) in omega (arith, l, mul-zero w.rate)),
  (λ h b t. lt-leb (million * len) (level_of w b t) (omega arith)),
)

module _ (σ : Terms) where
  module _ (cs : List Call) (f : ℕ) where
    own : Alone (flow_at σ f) (bucket_at (fresh σ) f) (of_flow f (told σ (fresh σ) cs))
    own = alone σ f (fresh σ) cs (lasting-fresh σ f)

    own-within : OwnBounded (flow_at σ f) (of_flow f (told σ (fresh σ) cs))
    own-within = own-bounded (flow_at σ f) (bucket_at (fresh σ) f) (of_flow f (told σ (fresh σ) cs)) own

    exact : MarksExactly (flow_at σ f) (of_flow f (told σ (fresh σ) cs))
    exact =
        marks-exactly (flow_at σ f) (bucket_at (fresh σ) f) (of_flow f (told σ (fresh σ) cs)) (ap (λ (b : Bucket). b.held) (fresh-bucket σ f)) own

  pub keeps : (cs : List Call) → Keeps σ (told σ (fresh σ) cs)
  keeps cs =
      record {
        bounded = λ f. bounded-by (flow_at σ f) f 0 (told σ (fresh σ) cs) (told-onward σ (fresh σ) cs) (own-within cs f);
        own_bounded = own-within cs;
        exactly = exact cs;
      }

  -- An answer to an accepted packet is no refusal.
  not_refused : (b : Bool) (r : Refusal) → answer_by b ≡ refused r → ⊥
  not_refused true r e = let z : ◌≡◌ {A = ℕ} 0 1 = cc in omega arith
  not_refused false r e = let z : ◌≡◌ {A = ℕ} 0 1 = cc in omega arith

  unmoved : (s : Marker) (c : Call) (r : Refusal) (o : Outcome) → Move σ s c o → o.answer ≡ refused r → o.marker ≡ s
  unmoved s c r _ (refuses q) e = refl
  unmoved s c r _ (accepts a) e = absurd (not_refused (holds (flow_at σ c.flow) (bucket_at s c.flow) c.len c.at) r e)

  pub refusal-keeps : RefusalKeeps σ
  refusal-keeps s c r e = unmoved s c r _ (move σ s c) e

  pub marker-keeps : MarkerKeeps σ
  marker-keeps =
      record {
        onward = told-onward σ (fresh σ);
        keeps = keeps;
        by_itself = by_itself σ;
        nothing_lost = nothing_lost_lem σ;
        refusal = refusal-keeps;
        sound = λ cs f. let k = lasting-after σ f (fresh σ) cs (lasting-fresh σ f) in (k.most, k.past);
      }
