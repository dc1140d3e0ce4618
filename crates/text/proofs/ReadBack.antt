-- Lines can be read back. Assumes nothing.
use mathlib.Core.Path.{◌≡◌, refl, sym, ap, subst, ◌∙◌}
use mathlib.Core.Bool.{cond}
use mathlib.Core.List.{List, [], ◌∷◌, ◌++◌, append_assoc}
use Prim.Native.Nat.{ℕ, zero, suc, ◌+◌, ◌-◌, ◌*◌, ◌/◌, ◌%◌, ◌^◌, ◌≤◌, ◌<◌}
use native.Mathlib.Nat.{pow-suc}
use native.Mathlib.Omega.{arith}
use lib.Dec.{ltb}
use lib.ListN.{length}
use borrow.Author.Tests.{lt-ltb, le-ltb, ltb-false}
use Rattle.text.specs.Text.{digit, digits_in, decimal, hex_digit, hex_digits_in, hexadecimal, fields_text, words_text}
use Rattle.text.proofs.Digits.{choose}
use Rattle.text.specs.ReadBack.{Printable, Words, LinesReadBack, WordedReadBack, FirstReadBack}

-- The number that digits stand for, behind those that stand for n.
abbrev value_from : ℕ → List ℕ → ℕ
value_from n [] = n
value_from n (x ∷ l) = value_from (10 * n + (x - 48)) l

value_snoc : (n : ℕ) (l : List ℕ) (x : ℕ) → value_from n (l ++ x ∷ []) ≡ 10 * value_from n l + (x - 48)
value_snoc n [] x = refl
value_snoc n (y ∷ l) x = value_snoc (10 * n + (y - 48)) l x

value_digits : (f v : ℕ) → v < 10 ^ suc f → value_from 0 (digits_in (suc f) v) ≡ v
unfolding digits_in
value_digits zero v h = choose (λ (l : List ℕ). value_from 0 l ≡ v) (ltb v 10) (λ e. omega arith) (λ e. absurd (omega (arith, ltb-false)))
value_digits (suc f) v h =
    let h' : v < 10 ^ suc f * 10 = subst (λ (k : ℕ). v < k) (pow-suc 10 (suc f)) h in
    let i = value_digits f (v / 10) (omega arith) in
    choose (λ (l : List ℕ). value_from 0 l ≡ v) (ltb v 10) (λ e. omega arith)
    (λ e. omega (arith, value_snoc 0 (digits_in (suc f) (v / 10)) (digit (v % 10))))

-- Every byte of a number is a digit.
abbrev Digits : List ℕ → Type 0
Digits [] = Unit {0}
Digits (x ∷ l) = (48 ≤ x) × Digits l

digits_snoc : (l : List ℕ) (x : ℕ) → Digits l → 48 ≤ x → Digits (l ++ x ∷ [])
digits_snoc [] x h k = (k, tt)
digits_snoc (y ∷ l) x h k = (h.0, digits_snoc l x h.1 k)

digits_only : (f v : ℕ) → Digits (digits_in f v)
unfolding digits_in
digits_only zero v = tt
digits_only (suc f) v =
    choose Digits (ltb v 10) (λ e. (omega arith, tt)) (λ e. digits_snoc (digits_in f (v / 10)) (digit (v % 10)) (digits_only f (v / 10)) (omega arith))

-- What follows a number begins with a byte that is no digit.
abbrev Stops : List ℕ → Type 0
Stops [] = ⊥
Stops (x ∷ l) = x < 48

fields_stop : (vs rest : List ℕ) → Stops rest → Stops (fields_text vs ++ rest)
fields_stop [] rest h = h
fields_stop (v ∷ vs) rest h = omega arith

words_stop : (fs rest : List ℕ) → Stops (words_text fs ++ 10 ∷ rest)
words_stop [] rest = omega arith
words_stop (f ∷ fs) rest = omega arith

head-same : {x y : ℕ} {k l : List ℕ} → x ∷ k ≡ y ∷ l → x ≡ y
head-same h = cc

tail-same : {x y : ℕ} {k l : List ℕ} → x ∷ k ≡ y ∷ l → k ≡ l
tail-same h = cc

same_digits : (d e r s : List ℕ) → Digits d → Digits e → Stops r → Stops s → d ++ r ≡ e ++ s → (d ≡ e) × (r ≡ s)
same_digits [] [] r s h k a b i = (refl, i)
same_digits [] (y ∷ e) [] s h k a b i = elim a [ ]
same_digits [] (y ∷ e) (x ∷ r) s h k a b i = absurd (omega (arith, head-same i))
same_digits (x ∷ d) [] r [] h k a b i = elim b [ ]
same_digits (x ∷ d) [] r (y ∷ s) h k a b i = absurd (omega (arith, head-same i))
same_digits (x ∷ d) (y ∷ e) r s h k a b i =
    let t = same_digits d e r s h.1 k.1 a b (tail-same i) in
    let xy : x ≡ y = head-same i in
    let de : d ≡ e = t.0 in
    (cc, t.1)

same_number : (v w : ℕ) (r s : List ℕ) → v < 10 ^ 20 → w < 10 ^ 20 → Stops r → Stops s → decimal v ++ r ≡ decimal w ++ s → (v ≡ w) × (r ≡ s)
unfolding decimal
same_number v w r s a b p q h =
    let d = same_digits (decimal v) (decimal w) r s (digits_only 20 v) (digits_only 20 w) p q h in
    (sym (value_digits 19 v a) ∙ ap (value_from 0) d.0 ∙ value_digits 19 w b, d.1)

-- The first of several numbers, and what follows it.
same_first :
    (v w : ℕ) (vs ws r s : List ℕ)
    → v < 10 ^ 20
    → w < 10 ^ 20
    → Stops r
    → Stops s
    → fields_text (v ∷ vs) ++ r ≡ fields_text (w ∷ ws) ++ s
    → (v ≡ w) × (fields_text vs ++ r ≡ fields_text ws ++ s)
same_first v w vs ws r s a b p q h =
    same_number v w (fields_text vs ++ r) (fields_text ws ++ s) a b (fields_stop vs r p) (fields_stop ws s q)
    (sym (append_assoc (decimal v) (fields_text vs) r) ∙ tail-same h ∙ append_assoc (decimal w) (fields_text ws) s)

-- Numbers up to the end of a line.
same_fields : (vs ws r s : List ℕ) → Printable vs → Printable ws → fields_text vs ++ 10 ∷ r ≡ fields_text ws ++ 10 ∷ s → (vs ≡ ws) × (r ≡ s)
same_fields [] [] r s a b h = (refl, tail-same h)
same_fields [] (w ∷ ws) r s a b h = absurd (omega (arith, head-same h))
same_fields (v ∷ vs) [] r s a b h = absurd (omega (arith, head-same h))
same_fields (v ∷ vs) (w ∷ ws) r s a b h =
    let d = same_first v w vs ws (10 ∷ r) (10 ∷ s) a.0 b.0 (omega arith) (omega arith) h in
    let n : v ≡ w = d.0 in
    let t = same_fields vs ws r s a.1 b.1 d.1 in
    let m : vs ≡ ws = t.0 in
    (cc, t.1)

pub lines_read_back : LinesReadBack
lines_read_back a b vs ws rest rest' h k e =
    let apart : fields_text vs ++ 10 ∷ rest ≡ fields_text ws ++ 10 ∷ rest' =
    sym (append_assoc (fields_text vs) (10 ∷ []) rest) ∙ tail-same e ∙ append_assoc (fields_text ws) (10 ∷ []) rest' in
    let t = same_fields vs ws rest rest' h k apart in
    (head-same e, t.0, t.1)

-- As many numbers, whatever follows them.
same_numbers :
    (vs ws r s : List ℕ)
    → length vs ≡ length ws
    → Printable vs
    → Printable ws
    → Stops r
    → Stops s
    → fields_text vs ++ r ≡ fields_text ws ++ s
    → (vs ≡ ws) × (r ≡ s)
same_numbers [] [] r s e a b p q h = (refl, h)
same_numbers [] (w ∷ ws) r s e a b p q h = absurd (omega arith)
same_numbers (v ∷ vs) [] r s e a b p q h = absurd (omega arith)
same_numbers (v ∷ vs) (w ∷ ws) r s e a b p q h =
    let d = same_first v w vs ws r s a.0 b.0 p q h in
    let n : v ≡ w = d.0 in
    let t = same_numbers vs ws r s (omega arith) a.1 b.1 p q d.1 in
    let m : vs ≡ ws = t.0 in
    (cc, t.1)

-- What a hexadecimal digit stands for.
abbrev hex_value : ℕ → ℕ
hex_value x = cond (ltb x 87) (x - 48) (x - 87)

value_hex : (d : ℕ) → d < 16 → hex_value (hex_digit d) ≡ d
value_hex d h =
    choose (λ (x : ℕ). hex_value x ≡ d) (ltb d 10)
    (λ e. rw (lt-ltb (48 + d) 87 (omega arith)) (omega arith))
    (λ e. rw (le-ltb (87 + d) 87 (omega arith)) (omega arith))

-- As many digits, whatever follows them.
same_hex : (n v w : ℕ) (r s : List ℕ) → v < 16 ^ n → w < 16 ^ n → hex_digits_in n v ++ r ≡ hex_digits_in n w ++ s → (v ≡ w) × (r ≡ s)
unfolding hex_digits_in
same_hex zero v w r s a b h = (omega arith, h)
same_hex (suc n) v w r s a b h =
    let a' : v < 16 ^ n * 16 = subst (λ (k : ℕ). v < k) (pow-suc 16 n) a in
    let b' : w < 16 ^ n * 16 = subst (λ (k : ℕ). w < k) (pow-suc 16 n) b in
    let t =
    same_hex n (v / 16) (w / 16) (hex_digit (v % 16) ∷ r) (hex_digit (w % 16) ∷ s) (omega arith) (omega arith)
    (sym (append_assoc (hex_digits_in n (v / 16)) _ r) ∙ h ∙ append_assoc (hex_digits_in n (w / 16)) _ s)
    in
    let d : v % 16 ≡ w % 16 = sym (value_hex (v % 16) (omega arith)) ∙ ap hex_value (head-same t.1) ∙ value_hex (w % 16) (omega arith) in
    (omega (arith, t.0), tail-same t.1)

-- Words up to the end of a line.
same-words : (fs gs r s : List ℕ) → Words fs → Words gs → words_text fs ++ 10 ∷ r ≡ words_text gs ++ 10 ∷ s → (fs ≡ gs) × (r ≡ s)
unfolding hexadecimal
same-words [] [] r s a b h = (refl, tail-same h)
same-words [] (g ∷ gs) r s a b h = absurd (omega (arith, head-same h))
same-words (f ∷ fs) [] r s a b h = absurd (omega (arith, head-same h))
same-words (f ∷ fs) (g ∷ gs) r s a b h =
    let d =
    same_hex 4 f g (words_text fs ++ 10 ∷ r) (words_text gs ++ 10 ∷ s) a.0 b.0
    (sym (append_assoc (hexadecimal f) (words_text fs) (10 ∷ r)) ∙ tail-same h ∙ append_assoc (hexadecimal g) (words_text gs) (10 ∷ s))
    in
    let n : f ≡ g = d.0 in
    let t = same-words fs gs r s a.1 b.1 d.1 in
    let m : fs ≡ gs = t.0 in
    (cc, t.1)

-- What follows a line's letter, to the right.
after-letter : (vs fs rest : List ℕ) → (fields_text vs ++ (words_text fs ++ 10 ∷ [])) ++ rest ≡ fields_text vs ++ (words_text fs ++ 10 ∷ rest)
after-letter vs fs rest = simp append_assoc

pub worded_read_back : WordedReadBack
worded_read_back a b vs ws fs gs rest rest' l h k p q e =
    let apart = sym (after-letter vs fs rest) ∙ tail-same e ∙ after-letter ws gs rest' in
    let t = same_numbers vs ws _ _ l h k (words_stop fs rest) (words_stop gs rest') apart in
    let u = same-words fs gs rest rest' p q t.1 in
    (head-same e, t.0, u.0, u.1)

pub first_read_back : FirstReadBack
first_read_back a b v w vs ws fs gs rest rest' h k e =
    let apart = sym (after-letter (v ∷ vs) fs rest) ∙ tail-same e ∙ after-letter (w ∷ ws) gs rest' in
    let t = same_first v w vs ws _ _ h k (words_stop fs rest) (words_stop gs rest') apart in
    (head-same e, t.0)
