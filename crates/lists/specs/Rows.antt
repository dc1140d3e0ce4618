-- Lists made piece by piece, as a loop that counts up makes them. Assumes nothing.
use Rattle.std.specs.Prelude.{List, [], ◌∷◌, ◌++◌, ℕ, zero, suc, length, drop}

-- g 0, g 1, .., g (n - 1), one after the other.
unfoldable pub rows : {A : Type 0} → ℕ → (ℕ → List A) → List A
rows zero g = []
rows (suc n) g = rows n g ++ g n

-- The list of g 0, g 1, .., g (n - 1).
abbrev pub tab : {A : Type 0} → ℕ → (ℕ → A) → List A
tab n g = rows n (λ k. g k ∷ [])

-- l with its first elements replaced by xs, and the elements beyond them as they were.
abbrev pub over : {A : Type 0} → List A → List A → List A
over xs l = xs ++ drop (length xs) l
