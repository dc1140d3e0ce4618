-- The text of a trace: one line per event, then the tally line. Assumes nothing.
use Rattle.std.specs.Prelude.{List, [], ◌∷◌, ◌++◌, map, ℕ}
use Rattle.units.specs.declared.Settings.{Settings}
use Rattle.rules.specs.Terms.{terms_of}
use Rattle.rules.specs.Line.{fresh}
use Rattle.rules.specs.Step.{Call, after, answers}
use Rattle.rules.specs.Printed.{line_of, tally_line}
use Rattle.rules.specs.Open.{opening}
use Rattle.block_image.specs.Image.{event_at}
use Rattle.lists.specs.Rows.{tab}
use Rattle.text.specs.Text.{lines_text}
use Rattle.run_events.specs.Calls.{call_of}

-- The first n events of an image as calls.
abbrev pub calls_of : List ℕ → (n : ℕ) → List Call
calls_of image n = tab n (λ k. call_of (event_at image k))

-- The letter and numbers of each line: an opening with the image's settings, one line per event, then the tally line.
abbrev pub trace_lines : Settings → List Call → List (List ℕ)
trace_lines settings cs =
    map line_of (answers (terms_of (opening settings).settings) fresh cs)
    ++ tally_line (after (terms_of (opening settings).settings) fresh cs).tallies ∷ []

-- The text of the first n events of an image, under these settings.
abbrev pub trace_text : List ℕ → Settings → (n : ℕ) → List ℕ
trace_text image settings n = lines_text (trace_lines settings (calls_of image n))
