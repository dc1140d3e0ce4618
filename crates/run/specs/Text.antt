-- The text of an image: that of its trace, or the one line of a refused image. Assumes nothing.
use Rattle.std.specs.Prelude.{List, [], ◌∷◌, ℕ, Result, Ok, Err}
use Rattle.refusals.specs.Numbers.{number}
use Rattle.block_image.specs.declared.Trace.{Trace}
use Rattle.block_image.specs.declared.ImageRefusal.{ImageRefusal}
use Rattle.block_image.specs.Image.{judged}
use Rattle.text.specs.Text.{values_text}
use Rattle.run_events.specs.Trace.{trace_text}

-- A refused image gives only X, the number, the block's index and the record's.
abbrev pub refused_text : (number block index : ℕ) → List ℕ
refused_text number block index = values_text (88 ∷ number ∷ block ∷ index ∷ [])

-- The text of an image that is judged so.
abbrev pub judged_text : List ℕ → Result Trace ImageRefusal → List ℕ
judged_text image (Ok t) = trace_text image t.settings t.events
judged_text image (Err r) = refused_text (number r.refusal) r.block r.«record»

-- The text of an image.
abbrev pub text_of : List ℕ → List ℕ
text_of image = judged_text image (judged image)
