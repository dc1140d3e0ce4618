-- Texts put one after the other, a text that stands between what stood around it; and the four digits of a word. Assumes nothing.
use mathlib.Core.Path.{◌≡◌, refl, sym, ap, ◌∙◌}
use mathlib.Core.List.{List, [], ◌∷◌, ◌++◌, append_assoc}
use Prim.Native.Nat.{ℕ, ◌+◌, ◌/◌, ◌%◌, ◌^◌, ◌≤◌, ◌<◌}
use native.Mathlib.Omega.{arith}
use lib.ListN.{length, take, drop, length-append}
use lib.Seq.{sets-eq, length-sets}
use Rattle.std.proofs.lemmas.List.{take-append-drop}
use Rattle.lists.proofs.Stores.{stored, stored_more}
use Rattle.std.specs.Fmt as std
use Rattle.text.proofs.Digits.{decimal-std}
use Rattle.text.specs.Text.{decimal, hex_digit, hex_digits_in, hexadecimal}
use Rattle.text_digits.specs.declared.Area.{Area}
use Rattle.text_digits.specs.Put.{Put, Puts}

pub put_length : {l m xs : List ℕ} {at p : ℕ} → Put l at xs m p → length m ≡ length l
put_length {l} {m} {xs} {at} a = ap length a.stored ∙ length-sets l at xs

pub put_then : {l m n : List ℕ} {at p q : ℕ} {xs ys : List ℕ} → Put l at xs m p → Put m p ys n q → Put l at (xs ++ ys) n q
put_then {l} {m} {n} {at} {p} {q} {xs} {ys} a b =
    let first = stored l at (length xs) xs m refl a.stored in
    let both = stored_more l at (length xs) xs m (length ys) ys n first refl (rw a.place at b.stored) in
    record { place = omega (arith, length-append xs ys, a.place, b.place); stored = both.is }

pub puts_then : {a b c : Area} {xs ys : List ℕ} → Puts a xs b → Puts b ys c → Puts a (xs ++ ys) c
puts_then f g = record { put = put_then f.put g.put; lent = g.lent ∙ f.lent }

-- The text between what stood before it and behind it.
put-between : {l m xs : List ℕ} {at : ℕ} → at + length xs ≤ length l → drop at m ≡ xs ++ drop (at + length xs) l → take at m ≡ take at l → Put l at xs m (at + length xs)
put-between {l} {m} {xs} {at} h after before =
    record { place = refl; stored = sym (take-append-drop at m) ∙ rw (before, after, ← append_assoc (take at l)) (sym (sets-eq xs l at h)) }

-- A number as the library writes it, from r up to the end of its digits.
pub put_digits :
    (r : ℕ) {l m : List ℕ} {at end v : ℕ}
    → v < 2 ^ 64
    → end ≤ length l
    → end ≡ at + length (decimal v)
    → r + length (std.decimal v) ≡ end
    → drop r m ≡ std.decimal v ++ drop end l
    → take r m ≡ take r l
    → Put l at (decimal v) m end
put_digits r {l} {m} {at} {end} {v} b h is start after before =
    let e = decimal-std v b in
    let s : r ≡ at = omega (arith, ap length e) in
    rw is
    (put-between (rw is at h) (rw (← is, e) (ap (λ (k : ℕ). drop k m) (sym s) ∙ after))
    (ap (λ (k : ℕ). take k m) (sym s) ∙ before ∙ ap (λ (k : ℕ). take k l) s))

pub word_digits : (v : ℕ) → v < 65536 → hexadecimal v ≡ hex_digit (v / 4096) ∷ hex_digit (v / 256 % 16) ∷ hex_digit (v / 16 % 16) ∷ hex_digit (v % 16) ∷ []
unfolding hexadecimal hex_digits_in
word_digits v h =
    let a : v / 16 / 16 / 16 % 16 ≡ v / 4096 = omega arith in
    let b : v / 16 / 16 % 16 ≡ v / 256 % 16 = omega arith in
    rw (a, b)
