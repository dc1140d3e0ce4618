-- How long any text gets. Assumes nothing.
use Rattle.std.specs.Prelude.{List, ℕ, ◌+◌, ◌*◌, ◌≤◌, length, Result, Ok, Err}
use Rattle.block_image.specs.declared.Trace.{Trace}
use Rattle.block_image.specs.declared.ImageRefusal.{ImageRefusal}
use Rattle.run_events.specs.Most.{line_most, tally_most}
use Rattle.run.specs.Text.{text_of}

-- 35 bytes for each of 1,984 events, and 27 for the tally line.
abbrev pub text_most : ℕ
text_most = 69_467

-- No image has a longer text, be it accepted or refused.
abbrev pub TextMost : Type 0
TextMost = (image : List ℕ) → length (text_of image) ≤ text_most

-- The most that the text of an image has that is judged so. A refused image's line is no longer than a tally line.
abbrev pub most_of : Result Trace ImageRefusal → ℕ
most_of (Ok t) = line_most * t.events + tally_most
most_of (Err r) = tally_most
