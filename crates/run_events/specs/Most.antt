-- How long the text of a trace gets. Assumes nothing.
use Rattle.std.specs.Prelude.{List, ℕ, ◌+◌, ◌*◌, ◌≤◌, length}
use Rattle.units.specs.declared.Settings.{Settings}
use Rattle.run_events.specs.Trace.{trace_text}

-- No line of an event is longer than `S 1984 1000000000000000 1000000 64`, which has 35 bytes with its end.
abbrev pub line_most : ℕ
line_most = 35

-- No tally line is longer than `T 1984 1984 1984 1984 1984`.
abbrev pub tally_most : ℕ
tally_most = 27

-- The text of n events of a trace is at most 35 * n + 27 bytes long, whatever the image and the settings.
abbrev pub TraceMost : Type 0
TraceMost = (image : List ℕ) (settings : Settings) (n : ℕ) → n ≤ 1984 → length (trace_text image settings n) ≤ line_most * n + tally_most
