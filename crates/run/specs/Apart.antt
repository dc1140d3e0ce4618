-- The text of a refused image tells its refusal. Assumes nothing.
use Rattle.std.specs.Prelude.{◌≡◌, List, ℕ, Err}
use Rattle.block_image.specs.declared.ImageRefusal.{ImageRefusal}
use Rattle.block_image.specs.Image.{judged}
use Rattle.run.specs.Text.{text_of}

-- An image with the text of a refused one is refused so too, in the same block and record: two different refusals never print the same line.
abbrev pub TextTellsRefusal : Type 0
TextTellsRefusal =
    (image other : List ℕ) (r : ImageRefusal)
    → judged image ≡ Err r
    → text_of image ≡ text_of other
    → judged other ≡ Err r
