-- The promises of the view and of its judgement leave one part of one area, and one refusal or none. Assumes nothing.
use Rattle.std.specs.Prelude.{◌≡◌, List, ℕ, Result}
use Rattle.std.specs.Borrow.{Bor}
use Rattle.refusals.specs.declared.Refusal.{Refusal}
use Rattle.refusals.specs.First.{first_refusal, answer_by}
use Rattle.payload.specs.Part.{view_tests, view_refusal, Viewed}

-- Two views that it allows lie in the same place and hold the same bytes.
abbrev pub OneView : Type 0
OneView =
    (area : Bor (List ℕ)) (len place : ℕ) (v w : Bor (List ℕ))
    → Viewed area len place v
    → Viewed area len place w
    → (v.ref_ptr.0 ≡ w.ref_ptr.0) × (v.ref_ptr.1 ≡ w.ref_ptr.1) × (v.now ≡ w.now)

-- Two judgements of one view are equal.
abbrev pub OneViewJudgement : Type 0
OneViewJudgement =
    (area : List ℕ) (len place : ℕ) (j k : Result (Unit {0}) Refusal)
    → j ≡ answer_by (first_refusal (view_tests area len place)) tt
    → k ≡ answer_by (first_refusal (view_tests area len place)) tt
    → j ≡ k

-- Two refusal numbers of one view are equal.
abbrev pub OneViewRefusal : Type 0
OneViewRefusal =
    (area : List ℕ) (len place r q : ℕ)
    → r ≡ view_refusal area len place
    → q ≡ view_refusal area len place
    → r ≡ q
