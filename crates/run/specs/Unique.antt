-- The whole run's promises leave one result and one content of the area. Assumes nothing.
use Rattle.std.specs.Prelude.{◌≡◌, List, ℕ, ℤ, Result}
use Rattle.refusals.specs.declared.Refusal.{Refusal}
use Rattle.run.specs.Text.{text_of}
use Rattle.run.specs.Ran.{Tells, Answers}

-- Two results that `tell` may give for one image and one area are equal.
abbrev pub OneTelling : Type 0
OneTelling =
    (image before after after' : List ℕ) (answer answer' : Result ℕ Refusal)
    → Tells (text_of image) before after answer
    → Tells (text_of image) before after' answer'
    → (answer ≡ answer') × (after ≡ after')

-- And two numbers that `whole_run` may give.
abbrev pub OneAnswer : Type 0
OneAnswer =
    (image before after after' : List ℕ) (number number' : ℤ)
    → Answers (text_of image) before after number
    → Answers (text_of image) before after' number'
    → (number ≡ number') × (after ≡ after')
