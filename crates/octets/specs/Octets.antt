-- Numbers in bytes, big-endian, and tables of fields that stand one after the other. Assumes nothing.
use Rattle.std.specs.Prelude.{◌≡◌, List, [], ◌∷◌, ◌++◌, ℕ, zero, suc, ◌+◌, ◌*◌, ◌/◌, ◌%◌, ◌^◌, ◌<◌, get_or}

-- Each element is a byte.
abbrev pub Octets : List ℕ → Type 0
Octets s = (i : ℕ) → get_or s i 0 < 256

-- The number that the bytes from index `at` spell, as many as `width` says, the first the highest.
unfoldable pub number_at : List ℕ → (at width : ℕ) → ℕ
number_at s at zero = 0
number_at s at (suc n) = number_at s at n * 256 + get_or s (at + n) 0

-- A word with its two bytes swapped.
abbrev pub swapped : ℕ → ℕ
swapped w = w % 256 * 256 + w / 256

-- The bytes that spell a number, as many as `width` says, the first the highest.
unfoldable pub octets_of : (width value : ℕ) → List ℕ
octets_of zero v = []
octets_of (suc n) v = octets_of n (v / 256) ++ (v % 256 ∷ [])

-- A row of a table of bytes: how many bytes the field takes, and the number in it.
pub record Field : Type 0 where
  pub width : ℕ
  pub value : ℕ

abbrev pub field : ℕ → ℕ → Field
field w v = record { width = w; value = v }

-- The bytes of a table: its fields one after the other.
abbrev pub spelled : List Field → List ℕ
spelled [] = []
spelled (f ∷ fs) = octets_of f.width f.value ++ spelled fs

-- How many bytes a table takes.
abbrev pub size : List Field → ℕ
size [] = 0
size (f ∷ fs) = f.width + size fs

-- Each field's number has room in the field.
abbrev pub Roomy : List Field → Type 0
Roomy [] = Unit {0}
Roomy (f ∷ fs) = (f.value < 256 ^ f.width) × Roomy fs

-- The fields of a table are what the bytes from `at` spell.
abbrev pub Stands : List ℕ → ℕ → List Field → Type 0
Stands s at [] = Unit {0}
Stands s at (f ∷ fs) = (number_at s at f.width ≡ f.value) × Stands s (at + f.width) fs
