-- A text put into a lent area: nothing else there changes. Assumes nothing.
use Rattle.std.specs.Prelude.{◌≡◌, List, ℕ, ◌+◌, length}
use Rattle.std.proofs.lemmas.List.Edits.{sets}
use Rattle.text_digits.specs.declared.Area.{Area}

-- `after` is `before` with the text from `at` on, and `behind` is the place behind it.
pub record Put (before : List ℕ) (at : ℕ) (text after : List ℕ) (behind : ℕ) : Type 0 where
  pub place : behind ≡ at + length text
  pub stored : after ≡ sets before at text

-- The same of an area with its place, which stays the area that was lent.
pub record Puts (before : Area) (text : List ℕ) (after : Area) : Type 0 where
  pub put : Put before.out.now before.at text after.out.now after.at
  pub lent : after.out.ghost_name ≡ before.out.ghost_name
