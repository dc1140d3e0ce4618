-- The area that a view's marking names. Assumes nothing.
use Rattle.units.specs.declared.Marking.{Marking}
use Rattle.units.specs.declared.Marking.TheVariants.{Unmarked, Marked}

-- Payloads lie in two areas, one for each marking.
abbrev pub area_of : {A : Type 0} → Marking → (unmarked marked : A) → A
area_of Unmarked unmarked marked = unmarked
area_of Marked unmarked marked = marked
