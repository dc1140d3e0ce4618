-- A marking as a number. Assumes nothing.
use Rattle.std.specs.Prelude.{Bool, true, false, ℕ, eqb}
use Rattle.units.specs.declared.Marking.{Marking}
use Rattle.units.specs.declared.Marking.TheVariants.{Unmarked, Marked}

abbrev pub code_of : Marking → ℕ
code_of Unmarked = 0
code_of Marked = 1

-- 0 is unmarked, any other number marked.
abbrev pub by_code : Bool → Marking
by_code true = Unmarked
by_code false = Marked

abbrev pub marking_of : ℕ → Marking
marking_of code = by_code (eqb code 0)
