-- Numbers, words, lines and texts: a number in decimal without leading zeros, a word of 16 bits in four hexadecimal digits, one space before each, one byte 10 at the end of a line. Assumes nothing.
use Rattle.std.specs.Prelude.{cond, List, [], ◌∷◌, ◌++◌, ℕ, zero, suc, ◌+◌, ◌/◌, ◌%◌, ltb}

-- The byte of a digit: 48 is '0'.
abbrev pub digit : ℕ → ℕ
digit d = 48 + d

-- The digits of v, most significant first, if it has at most so many.
unfoldable pub digits_in : (most v : ℕ) → List ℕ
digits_in zero v = []
digits_in (suc most) v = cond (ltb v 10) (digit v ∷ []) (digits_in most (v / 10) ++ digit (v % 10) ∷ [])

-- Every number of 64 bits has at most 20 digits.
unfoldable pub decimal : ℕ → List ℕ
decimal v = digits_in 20 v

-- The byte of a hexadecimal digit: 97 is 'a', which stands for 10.
abbrev pub hex_digit : ℕ → ℕ
hex_digit d = cond (ltb d 10) (48 + d) (87 + d)

-- The last so many hexadecimal digits of v, most significant first, zeros included.
unfoldable pub hex_digits_in : (digits v : ℕ) → List ℕ
hex_digits_in zero v = []
hex_digits_in (suc digits) v = hex_digits_in digits (v / 16) ++ hex_digit (v % 16) ∷ []

-- Every word of 16 bits has four.
unfoldable pub hexadecimal : ℕ → List ℕ
hexadecimal v = hex_digits_in 4 v

-- A space and a number.
abbrev pub field_text : ℕ → List ℕ
field_text v = 32 ∷ decimal v

abbrev pub fields_text : List ℕ → List ℕ
fields_text [] = []
fields_text (v ∷ vs) = field_text v ++ fields_text vs

-- A space and a word.
abbrev pub word_text : ℕ → List ℕ
word_text v = 32 ∷ hexadecimal v

-- Several of them.
abbrev pub words_text : List ℕ → List ℕ
words_text [] = []
words_text (v ∷ vs) = word_text v ++ words_text vs

-- A line: its letter, its numbers and its end.
abbrev pub line_text : (letter : ℕ) → List ℕ → List ℕ
line_text letter vs = letter ∷ (fields_text vs ++ 10 ∷ [])

-- The same by a list of letter and numbers.
abbrev pub values_text : List ℕ → List ℕ
values_text [] = []
values_text (letter ∷ vs) = line_text letter vs

-- A line whose last fields are words.
abbrev pub worded_text : (letter : ℕ) (numbers words : List ℕ) → List ℕ
worded_text letter vs ws = letter ∷ (fields_text vs ++ (words_text ws ++ 10 ∷ []))

-- The text of several lines.
abbrev pub lines_text : List (List ℕ) → List ℕ
lines_text [] = []
lines_text ([] ∷ ls) = lines_text ls
lines_text ((letter ∷ vs) ∷ ls) = line_text letter vs ++ lines_text ls
