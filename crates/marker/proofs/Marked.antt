-- One packet: the code's answer is the rules', and the words that it leaves stand for the rules' next marker. Assumes nothing.
use mathlib.Core.Path.{◌≡◌, refl, sym, ap, ◌∙◌}
use mathlib.Core.Bool.{Bool, true, false}
use mathlib.Core.List.{List}
use mathlib.Core.Option.{Option, none, some}
use Prim.Native.Nat.{ℕ, ◌*◌, ◌<◌}
use native.Mathlib.Nat.{mul-le-mul_left}
use native.Mathlib.Omega.{arith}
use lib.Dec.{leb}
use lib.ListN.{length}
use borrow.Author.Tests.{leb-false, ltb-false}
use Rattle.std.specs.Prelude.{Ok}
use Rattle.refusals.specs.declared.Refusal.{Refusal}
use Rattle.refusals.specs.First.{Test, first_refusal, answer_by}
use Rattle.refusals.proofs.Laws.{passes}
use Rattle.units.specs.Limits.{length_most, instant_most}
use Rattle.marker_rules.specs.Terms.{Terms, flow_at, terms_of}
use Rattle.marker_rules.specs.Bucket.{million, level_of, holds, taken_by, bucket_then}
use Rattle.marker_rules.specs.Step.{Call, Marker, bucket_at, packet_tests, tests_of, answering, step}
use Rattle.marker_rules.specs.Step as rules
use Rattle.marker_rules.specs.Opened.{InRange}
use Rattle.marker_rules.proofs.Laws.{looked_then}
use Rattle.marker_rules.proofs.Turns.{Lasting}
use Rattle.marker.specs.Words.{Words, clock_in, count_in}
use Rattle.marker.specs.Lookable.{Lookable}
use Rattle.marker.specs.Calls.{refusal_in, level_in, holds_in, held_then, marking, mark_of, marking_words, mark_words}
use Rattle.marker.specs.Values.{answer_read}
use Rattle.marker.specs.Stands.{Stands}
use Rattle.marker.proofs.Holding.{stands-held}

-- What is known of every marker that calls lead to.
pub record Fit (σ : Terms) (s : Marker) : Type 0 where
  pub terms : σ ≡ terms_of σ.flows
  pub range : InRange σ.flows
  pub lasting : (f : ℕ) → Lasting σ f s

-- The code's call and the rules'.
pub record Agrees (σ : Terms) (w : Words) (s : Marker) (c : Call) : Type 0 where
  pub answer : answer_read (mark_of w c) ≡ (step σ s c).answer
  pub stands : Stands σ (mark_words w c) (step σ s c).marker

answer-by : (b : Bool) → answer_read (Ok (marking b)) ≡ rules.answer_by b
answer-by true = refl
answer-by false = refl

held_by : (b : Bool) (level len t : ℕ) → held_then b level len ≡ (taken_by b level len t).held
held_by true level len t = refl
held_by false level len t = refl

module _ (σ : Terms) (w : Words) (s : Marker) (k : Stands σ w s) (fit : Fit σ s) (c : Call) where
  abbrev tests : List Test
  tests = packet_tests (count_in w) length_most instant_most (clock_in w) c

  -- The tests are the rules'.
  same_tests : tests ≡ tests_of σ s c
  same_tests =
      rw (k.count, k.clock)
      (ap (λ (τ : Terms). packet_tests (length σ.flows) τ.longest τ.latest s.clock c) (sym fit.terms))

  -- A packet of a flow that was opened.
  module _ (h : c.flow < length σ.flows) where
    level_same : level_in w c.flow c.at ≡ level_of (flow_at σ c.flow) (bucket_at s c.flow) c.at
    level_same =
        let x = k.flows c.flow h in
        rw (x.rate, x.top, x.held, x.looked)

    holds_same : holds_in w c ≡ holds (flow_at σ c.flow) (bucket_at s c.flow) c.len c.at
    holds_same = ap (leb (million * c.len)) level_same

    held_same : held_then (holds_in w c) (level_in w c.flow c.at) c.len
        ≡ (bucket_then (flow_at σ c.flow) (bucket_at s c.flow) c.len c.at).held
    held_same = rw (holds_same, level_same) (held_by (holds (flow_at σ c.flow) (bucket_at s c.flow) c.len c.at) _ c.len c.at)

  agrees-by : (o : Option Refusal) → first_refusal (tests_of σ s c) ≡ o
      → (answer_read (answer_by o (marking (holds_in w c))) ≡ (answering σ o s c).answer)
      × Stands σ (marking_words o (holds_in w c) w c) (answering σ o s c).marker
  agrees-by none e =
      let p = passes (tests_of σ s c) e in
      let h : c.flow < length σ.flows = leb-false _ _ p.0 in
      let b = bucket_then (flow_at σ c.flow) (bucket_at s c.flow) c.len c.at in (
        rw (holds_same h) (answer-by (holds (flow_at σ c.flow) (bucket_at s c.flow) c.len c.at)),
        rw (held_same h)
            (stands-held σ w s c.flow c.at b k (fit.lasting c.flow).counted h fit.range.most (looked_then _ _ c.len c.at)),
      )
  agrees-by (some r) e = (refl, k)

  pub agrees : Agrees σ w s c
  unfolding mark_of mark_words step
  agrees =
      let x = agrees-by (first_refusal (tests_of σ s c)) refl in
      let same : refusal_in w c ≡ first_refusal (tests_of σ s c) = ap (λ (ts : List Test). first_refusal ts) same_tests in
      record {
        answer = rw same x.0;
        stands = rw same x.1;
      }

  -- Where no test holds, the bucket may be looked at.
  pub lookable : refusal_in w c ≡ none → Lookable w c.flow c.at
  lookable z =
      let p = passes (tests_of σ s c) (sym (ap (λ (ts : List Test). first_refusal ts) same_tests) ∙ z) in
      let h : c.flow < length σ.flows = leb-false _ _ p.0 in
      let x = k.flows c.flow h in
      let r = fit.range.each c.flow h in
      let l = fit.lasting c.flow in
      record {
        below = omega (arith, fit.range.most);
        fillable =
            rw (x.rate, x.top, x.held)
            (record { small = mul-le-mul_left million r.depth_most; within = l.most; least = r.rate_least; most = r.rate_most });
        past = rw x.looked (omega (arith, l.past, ltb-false c.at s.clock p.1.1.1.0));
      }
