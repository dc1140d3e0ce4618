-- The longest line, by computation. Assumes nothing.
use mathlib.Core.Path.{refl}
use native.Mathlib.Omega.{arith}
use Rattle.rules.specs.Decide.{first_unmarked, decide}
use Rattle.rules.specs.Step.{step, after}
use Rattle.text.specs.Text.{digits_in, decimal}
use Rattle.rules_cases.specs.Longest.{LongestLine}

pub longest-line : LongestLine
unfolding after step decide first_unmarked decimal digits_in
longest-line = (omega arith, refl, refl)
