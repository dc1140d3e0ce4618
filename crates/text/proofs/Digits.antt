-- Decimal text: its last digits, its length, and that the library's calls write it; and the length of a word. Assumes nothing.
use mathlib.Core.Path.{◌≡◌, refl, ap, subst, ◌∙◌}
use mathlib.Core.Bool.{Bool, true, false, cond}
use mathlib.Core.List.{List, [], ◌∷◌, ◌++◌}
use Prim.Native.Nat.{ℕ, zero, suc, ◌+◌, ◌*◌, ◌/◌, ◌%◌, ◌^◌, ◌≤◌, ◌<◌}
use native.Mathlib.Nat.{pow-suc}
use native.Mathlib.Omega.{arith}
use lib.Dec.{ltb}
use lib.ListN.{length, length-append}
use borrow.Author.Tests.{lt-ltb, le-ltb, ltb-false}
use Rattle.std.specs.Fmt as std
use Rattle.std.proofs.lemmas.Fmt.{decimal_from_appends, length-decimal-le}
use Rattle.text.specs.Text.{digit, digits_in, decimal, hex_digits_in, hexadecimal}

-- Room for one digit more than there can be changes nothing.
more : (f v : ℕ) → v < 10 ^ suc f → digits_in (suc f) v ≡ digits_in (suc (suc f)) v
unfolding digits_in
more zero v h = rw (lt-ltb v 10 h)
more (suc f) v h =
    let h' : v < 10 ^ suc f * 10 = subst (λ (k : ℕ). v < k) (pow-suc 10 (suc f)) h in
    ap (λ (l : List ℕ). cond (ltb v 10) (digit v ∷ []) (l ++ digit (v % 10) ∷ [])) (more f (v / 10) (omega arith))

opened : (f v : ℕ) → 10 ≤ v → digits_in (suc f) v ≡ digits_in f (v / 10) ++ digit (v % 10) ∷ []
unfolding digits_in
opened f v h = rw (le-ltb v 10 h)

pub one-digit : (v : ℕ) → v < 10 → decimal v ≡ digit v ∷ []
unfolding decimal digits_in
one-digit v h = rw (lt-ltb v 10 h)

pub last-digit : (v : ℕ) → 10 ≤ v → v < 10 ^ 20 → decimal v ≡ decimal (v / 10) ++ digit (v % 10) ∷ []
unfolding decimal
last-digit v h b = opened 19 v h ∙ ap (λ (l : List ℕ). l ++ digit (v % 10) ∷ []) (more 18 (v / 10) (omega arith))

pub length_last : (v : ℕ) → 10 ≤ v → v < 10 ^ 20 → length (decimal v) ≡ length (decimal (v / 10)) + 1
length_last v h b = ap length (last-digit v h b) ∙ length-append (decimal (v / 10)) _

-- A number of k digits and one has so many, if there is room for them.
digits_exact : (f k v : ℕ) → k < f → 10 ^ k ≤ v → v < 10 ^ suc k → length (digits_in f v) ≡ suc k
unfolding digits_in
digits_exact zero k v r l h = absurd (omega arith)
digits_exact (suc f) zero v r l h = rw (lt-ltb v 10 h)
digits_exact (suc f) (suc k) v r l h =
    let l' : 10 ^ k * 10 ≤ v = subst (λ (n : ℕ). n ≤ v) (pow-suc 10 k) l in
    let h' : v < 10 ^ suc k * 10 = subst (λ (n : ℕ). v < n) (pow-suc 10 (suc k)) h in
    rw (le-ltb v 10 (omega arith))
    (omega (arith, digits_exact f k (v / 10) (omega arith) (omega arith) (omega arith), length-append (digits_in f (v / 10)) (digit (v % 10) ∷ [])))

pub decimal-one : (v : ℕ) → v < 10 → 1 ≡ length (decimal v)
unfolding decimal digits_in
decimal-one v h = rw (lt-ltb v 10 h) refl

pub decimal-exact : (k v : ℕ) → k < 20 → 10 ^ k ≤ v → v < 10 * 10 ^ k → k + 1 ≡ length (decimal v)
unfolding decimal
decimal-exact k v r l h = omega (arith, digits_exact 20 k v r l (rw (pow-suc 10 k) (omega arith)))

-- What holds of either side, where its test says so, holds of the choice.
pub choose : {A : Type 0} (P : A → Type 0) (b : Bool) {x y : A} → (b ≡ true → P x) → (b ≡ false → P y) → P (cond b x y)
choose P true p q = p refl
choose P false p q = q refl

digits_most : (f v : ℕ) → length (digits_in f v) ≤ f
unfolding digits_in
digits_most zero v = omega arith
digits_most (suc f) v =
    choose (λ (l : List ℕ). length l ≤ suc f) (ltb v 10) (λ e. omega arith)
    (λ e. omega (arith, digits_most f (v / 10), length-append (digits_in f (v / 10)) (digit (v % 10) ∷ [])))

-- A number below 10^k has at most k digits, 0 one.
digits_within : (f k v : ℕ) → v < 10 ^ suc k → length (digits_in f v) ≤ suc k
unfolding digits_in
digits_within zero k v h = omega arith
digits_within (suc f) zero v h =
    choose (λ (l : List ℕ). length l ≤ 1) (ltb v 10) (λ e. omega arith) (λ e. absurd (omega (arith, ltb-false)))
digits_within (suc f) (suc k) v h =
    let h' : v < 10 ^ suc k * 10 = subst (λ (n : ℕ). v < n) (pow-suc 10 (suc k)) h in
    choose (λ (l : List ℕ). length l ≤ suc (suc k)) (ltb v 10) (λ e. omega arith)
    (λ e. omega (arith, digits_within f k (v / 10) (omega arith), length-append (digits_in f (v / 10)) (digit (v % 10) ∷ [])))

pub decimal-within : (k v : ℕ) → v < 10 ^ suc k → length (decimal v) ≤ suc k
unfolding decimal
decimal-within k v h = digits_within 20 k v h

pub decimal-most : (v : ℕ) → length (decimal v) ≤ 20
unfolding decimal
decimal-most v = digits_most 20 v

-- A word has four digits, whatever its value.
pub hexadecimal-length : (v : ℕ) → length (hexadecimal v) ≡ 4
unfolding hexadecimal hex_digits_in
hexadecimal-length v = refl

-- It is the text that the library's calls write.
pub decimal-std : (v : ℕ) → v < 2 ^ 64 → decimal v ≡ std.decimal v
unfolding decimal digits_in
decimal-std v h =
    decimal_from_appends digits_in (record { one = λ k n l. rw (lt-ltb n 10 l); more = λ k n l. rw (le-ltb n 10 l) }) 20 v h
    (length-decimal-le 20 v (omega arith) (omega arith) h)
