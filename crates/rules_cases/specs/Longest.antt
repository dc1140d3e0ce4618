-- A line of 35 bytes does occur within 1,984 events: no line can be promised fewer. Assumes nothing.
use Rattle.std.specs.Prelude.{◌≡◌, List, [], ◌∷◌, ◌++◌, ℕ, zero, suc, ◌+◌, ◌*◌, ◌<◌, length, replicate}
use Rattle.units.specs.declared.Settings.{Settings}
use Rattle.rules.specs.Terms.{terms_of}
use Rattle.rules.specs.Line.{fresh}
use Rattle.rules.specs.Step.{Call, step, after}
use Rattle.rules.specs.Printed.{line_of}
use Rattle.text.specs.Text.{values_text}
use Rattle.rules_cases.specs.Table.{u, m, a}

-- Alpha 1,000,000, 64 ticks per byte.
abbrev pub most : Settings
most = record { alpha = record { 0 = 1_000_000 }; ticks_per_byte = 64 }

-- At t 64 marked packets come, and behind them an unmarked one. Eight of the marked are sent, which takes alpha to the tick.
abbrev pub burst : (t : ℕ) → List Call
burst t = replicate 7 (m 2_048 t) ++ m 1_289 t ∷ (replicate 56 (m 1 t) ++ u 1 t ∷ replicate 8 (a (t + 1_000_000)))

-- So many of them, each with the advance that drops the other 56 and starts the unmarked packet.
abbrev pub bursts : (n : ℕ) → List Call
bursts zero = []
bursts (suc n) = bursts n ++ (burst (2_000_000 * n) ++ a (2_000_000 * n + 1_000_000) ∷ [])

-- One more, alpha before the latest instant, and the answer to the advance to that instant.
abbrev pub before : List Call
before = bursts 15 ++ burst 999_999_999_000_000

abbrev pub longest : List ℕ
longest = line_of (step (terms_of most) (after (terms_of most) fresh before) (a 1_000_000_000_000_000)).answer

abbrev pub LongestLine : Type 0
LongestLine =
    (length before < 1_984) × (longest ≡ 83 ∷ 1_040 ∷ 1_000_000_000_000_000 ∷ 1_000_000 ∷ 56 ∷ []) × (length (values_text longest) ≡ 35)
