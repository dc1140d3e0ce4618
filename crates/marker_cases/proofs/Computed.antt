-- The marker's cases hold, by computation. Assumes nothing.
use mathlib.Core.Path.{refl}
use Rattle.marker_rules.specs.Step.{step, after}
use Rattle.marker_rules.specs.Told.{told}
use Rattle.marker_cases.specs.Table.{AllCases}

pub all_cases : AllCases
unfolding told after step
all_cases = record { calls = refl; opened = refl; bound = refl }
