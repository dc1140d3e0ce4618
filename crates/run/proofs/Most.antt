-- No text is longer than that of the longest trace. Assumes nothing.
use mathlib.Core.Path.{◌≡◌, refl, sym}
use mathlib.Core.List.{List, [], ◌∷◌}
use Prim.Native.Nat.{ℕ, ◌≤◌}
use native.Mathlib.Omega.{arith}
use lib.ListN.{length}
use Rattle.std.specs.Prelude.{Result, Ok, Err}
use Rattle.refusals.specs.Numbers.{number}
use Rattle.refusals.proofs.Named.{number_most}
use Rattle.block_image.specs.declared.Trace.{Trace}
use Rattle.block_image.specs.declared.ImageRefusal.{ImageRefusal}
use Rattle.block_image.specs.Image.{judged}
use Rattle.block_image.proofs.Named.{refused-small}
use Rattle.text.proofs.Fields.{line-within}
use Rattle.run_events.proofs.Most.{trace_most}
use Rattle.run.specs.Text.{judged_text, text_of}
use Rattle.run.specs.Most.{text_most, most_of, TextMost}
use Rattle.run.proofs.Answers.{events_few}

text-within : (image : List ℕ) (x : Result Trace ImageRefusal) → x ≡ judged image → (length (judged_text image x) ≤ most_of x) × (most_of x ≤ text_most)
text-within image (Ok t) h =
    let few = events_few image (Ok t) t h refl in
    (trace_most image t.settings t.events few.1, omega (arith, few.1))
text-within image (Err r) h =
    let small = refused-small image r.refusal r.block r.«record» (sym h) in (
      omega (
        arith,
        line-within 88 (2 ∷ 2 ∷ 2 ∷ []) (number r.refusal ∷ r.block ∷ r.«record» ∷ []) (omega (arith, small, number_most r.refusal)),
      ),
      omega arith,
    )

-- What the judgement of an image says of the length of its text.
pub judged_most : (image : List ℕ) (x : Result Trace ImageRefusal) → x ≡ judged image → (length (text_of image) ≤ most_of x) × (most_of x ≤ text_most)
judged_most image x h = rw (← h) (text-within image x h)

pub text_most_lem : TextMost
text_most_lem image = let m = text-within image (judged image) refl in omega (arith, m.0, m.1)
