-- How long the numbers and the words of a line can get. Assumes nothing.
use mathlib.Core.Path.{◌≡◌, refl, sym, ap, ◌∙◌}
use mathlib.Core.List.{List, [], ◌∷◌, ◌++◌, append_assoc, append-nil}
use Prim.Native.Nat.{ℕ, zero, suc, ◌+◌, ◌*◌, ◌^◌, ◌≤◌, ◌<◌}
use native.Mathlib.Omega.{arith}
use lib.ListN.{length, take, get_or, length-append}
use Rattle.std.proofs.lemmas.List.{take_more}
use Rattle.text.specs.Text.{field_text, fields_text, word_text, words_text, line_text, worded_text}
use Rattle.text.proofs.Digits.{decimal-within, decimal-most, hexadecimal-length}

pub line-length : (letter : ℕ) (vs : List ℕ) → length (line_text letter vs) ≡ length (fields_text vs) + 2
line-length letter vs = omega (arith, length-append (fields_text vs) (10 ∷ []))

-- No number takes more than 21 bytes with its space.
pub fields_most_lem : (vs : List ℕ) → length (fields_text vs) ≤ 21 * length vs
fields_most_lem [] = omega arith
fields_most_lem (v ∷ vs) = omega (arith, fields_most_lem vs, decimal-most v, length-append (field_text v) (fields_text vs))

pub line-most : (letter : ℕ) (vs : List ℕ) (count : ℕ) → length vs ≤ count → length (line_text letter vs) ≤ 21 * count + 2
line-most letter vs count h = omega (arith, fields_most_lem vs, line-length letter vs)

-- A word takes five bytes with its space.
pub words-length : (ws : List ℕ) → length (words_text ws) ≡ 5 * length ws
words-length [] = refl
words-length (w ∷ ws) = omega (arith, words-length ws, hexadecimal-length w, length-append (word_text w) (words_text ws))

pub worded_length : (letter : ℕ) (vs ws : List ℕ) → length (worded_text letter vs ws) ≡ length (fields_text vs) + 5 * length ws + 2
worded_length letter vs ws =
    omega (arith, words-length ws, length-append (fields_text vs) (words_text ws ++ 10 ∷ []), length-append (words_text ws) (10 ∷ []))

pub worded_most : (letter : ℕ) (vs ws : List ℕ) → length (worded_text letter vs ws) ≤ 21 * length vs + 5 * length ws + 2
worded_most letter vs ws = omega (arith, fields_most_lem vs, worded_length letter vs ws)

-- Each number has at most so many digits, and what they all take, with a space before each.
abbrev pub Within : (most vs : List ℕ) → Type 0
Within [] [] = Unit {0}
Within [] (v ∷ vs) = ⊥
Within (zero ∷ most) vs = ⊥
Within (suc k ∷ most) [] = ⊥
Within (suc k ∷ most) (v ∷ vs) = (v < 10 ^ suc k) × Within most vs

abbrev pub fields_most : (most : List ℕ) → ℕ
fields_most [] = 0
fields_most (k ∷ most) = 1 + k + fields_most most

fields_within : (most vs : List ℕ) → Within most vs → length (fields_text vs) ≤ fields_most most
fields_within [] [] h = omega arith
fields_within [] (v ∷ vs) h = elim h [ ]
fields_within (zero ∷ most) vs h = elim h [ ]
fields_within (suc k ∷ most) [] h = elim h [ ]
fields_within (suc k ∷ most) (v ∷ vs) h =
    omega (arith, fields_within most vs h.1, decimal-within k v h.0, length-append (field_text v) (fields_text vs))

pub line-within : (letter : ℕ) (most vs : List ℕ) → Within most vs → length (line_text letter vs) ≤ fields_most most + 2
line-within letter most vs h = omega (arith, fields_within most vs h, line-length letter vs)

-- The numbers before a place, and the one there.
pub fields_more : (vs : List ℕ) (i : ℕ) → i < length vs → fields_text (take (i + 1) vs) ≡ fields_text (take i vs) ++ field_text (get_or vs i 0)
fields_more vs i h = ap fields_text (take_more vs i 0 h) ∙ fields_last (take i vs) (get_or vs i 0)
  where
    fields_last : (us : List ℕ) (v : ℕ) → fields_text (us ++ v ∷ []) ≡ fields_text us ++ field_text v
    fields_last [] v = append-nil (field_text v)
    fields_last (u ∷ us) v = ap (λ (t : List ℕ). field_text u ++ t) (fields_last us v) ∙ sym (append_assoc (field_text u) (fields_text us) (field_text v))

-- The words before a place, and the one there.
pub words_more : (ws : List ℕ) (i : ℕ) → i < length ws → words_text (take (i + 1) ws) ≡ words_text (take i ws) ++ word_text (get_or ws i 0)
words_more ws i h = ap words_text (take_more ws i 0 h) ∙ words_last (take i ws) (get_or ws i 0)
  where
    words_last : (us : List ℕ) (w : ℕ) → words_text (us ++ w ∷ []) ≡ words_text us ++ word_text w
    words_last [] w = append-nil (word_text w)
    words_last (u ∷ us) w = ap (λ (t : List ℕ). word_text u ++ t) (words_last us w) ∙ sym (append_assoc (word_text u) (words_text us) (word_text w))
