-- The numbers of an answer. Assumes nothing.
use Rattle.std.specs.Prelude.{List, [], ◌∷◌, ℕ}
use Rattle.refusals.specs.Numbers.{number}
use Rattle.marker_rules.specs.Step.{Answer, unmarked, marked, refused}

-- Its refusal, 0 if it is none, and 1 if the packet is marked. A number that an answer has no use for is 0.
abbrev pub numbers_of : Answer → List ℕ
numbers_of unmarked = 0 ∷ 0 ∷ []
numbers_of marked = 0 ∷ 1 ∷ []
numbers_of (refused r) = number r ∷ 0 ∷ []
