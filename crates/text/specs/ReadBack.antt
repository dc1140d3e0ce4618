-- Lines can be read back: no two different lines of the same kind print alike, whatever follows them, and no two of any kind that differ in letter or first number. Assumes nothing.
use Rattle.std.specs.Prelude.{◌≡◌, List, [], ◌∷◌, ◌++◌, ℕ, ◌^◌, ◌<◌, length}
use Rattle.text.specs.Text.{line_text, worded_text}

-- Numbers of 64 bits, and larger ones of up to 20 digits.
abbrev pub Printable : List ℕ → Type 0
Printable [] = Unit {0}
Printable (v ∷ vs) = (v < 10 ^ 20) × Printable vs

-- Numbers of 16 bits.
abbrev pub Words : List ℕ → Type 0
Words [] = Unit {0}
Words (w ∷ ws) = (w < 65536) × Words ws

-- Two texts that begin with a line each, and are equal, begin with the same line and go on alike.
abbrev pub LinesReadBack : Type 0
LinesReadBack =
    (a b : ℕ) (vs ws rest rest' : List ℕ)
    → Printable vs
    → Printable ws
    → line_text a vs ++ rest ≡ line_text b ws ++ rest'
    → (a ≡ b) × (vs ≡ ws) × (rest ≡ rest')

-- The same of lines with as many numbers each, and any words behind them.
abbrev pub WordedReadBack : Type 0
WordedReadBack =
    (a b : ℕ) (vs ws fs gs rest rest' : List ℕ)
    → length vs ≡ length ws
    → Printable vs
    → Printable ws
    → Words fs
    → Words gs
    → worded_text a vs fs ++ rest ≡ worded_text b ws gs ++ rest'
    → (a ≡ b) × (vs ≡ ws) × (fs ≡ gs) × (rest ≡ rest')

-- Of any two lines with a number, letter and first number are the same: so these can tell what follows them.
abbrev pub FirstReadBack : Type 0
FirstReadBack =
    (a b v w : ℕ) (vs ws fs gs rest rest' : List ℕ)
    → v < 10 ^ 20
    → w < 10 ^ 20
    → worded_text a (v ∷ vs) fs ++ rest ≡ worded_text b (w ∷ ws) gs ++ rest'
    → (a ≡ b) × (v ≡ w)
