-- One of two values: by a test, and by a marking. Assumes nothing.
use Rattle.std.specs.Prelude.{Bool, true, false}
use Rattle.units.specs.declared.Marking.{Marking}
use Rattle.units.specs.declared.Marking.TheVariants.{Unmarked, Marked}

-- One of two values, by a test.
abbrev pub pick : {A : Type 0} → Bool → A → A → A
pick true a b = a
pick false a b = b

-- One value for each marking.
abbrev pub by_marking : {A : Type 0} → Marking → A → A → A
by_marking Unmarked a b = a
by_marking Marked a b = b
