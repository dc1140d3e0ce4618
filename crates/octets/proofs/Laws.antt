-- Laws of big-endian numbers, each once over the width. Assumes nothing.
use mathlib.Core.Path.{◌≡◌, refl, sym, ap, subst, ◌∙◌}
use mathlib.Core.List.{List, [], ◌∷◌, ◌++◌, append_assoc, append-nil}
use Prim.Native.Nat.{ℕ, zero, suc, ◌+◌, ◌-◌, ◌*◌, ◌/◌, ◌%◌, ◌^◌, ◌≤◌, ◌<◌}
use native.Mathlib.Omega.{arith}
use native.Mathlib.Nat.{add-zero, add-suc, add_assoc, mul_assoc, add-mul, mul-one, pow-zero, pow-suc, div-one, mul_comm, div-div-eq-div-mul}
use lib.Arith.{digits_div, digits_mod, digits_lt}
use lib.ListN.{length, get_or, take, drop, length-append, length-drop, get_or-append, replicate}
use lib.Seq.{sets, sets-eq, take-suc, drop_at, length-take-le, get_or-drop, get_or_at, get_or-append-add, drop-drop}
use borrow.Rule.Slice.PartMut.{put_mid, post_of}
use Rattle.std.proofs.lemmas.List.{take_all, get_or-take, get_or-replicate}
use Rattle.std.specs.Int.{w64, byte_at, bytes_high_first, from_be_bytes, to_be_bytes}
use Rattle.octets.specs.Octets.{Octets, number_at, octets_of}

-- n bytes and then m bytes: the first number scaled by 256 ^ m, and the second.
pub number-add : (s : List ℕ) (at n m : ℕ) → number_at s at (n + m) ≡ number_at s at n * 256 ^ m + number_at s (at + n) m
unfolding number_at
number-add s at n zero = simp (add-zero, pow-zero, mul-one)
number-add s at n (suc m) =
    rw (add-suc n m)
    (ap (λ (x : ℕ). x * 256 + get_or s (at + (n + m)) 0) (number-add s at n m)
    ∙ simp (add-mul, pow-suc, mul_assoc, add_assoc))

-- No byte spells 0.
number-none : (s : List ℕ) (at : ℕ) → 0 ≡ number_at s at 0
unfolding number_at
number-none s at = refl

-- A byte spells itself.
pub number-one : (s : List ℕ) (at : ℕ) → number_at s at 1 ≡ get_or s at 0
unfolding number_at
number-one s at = rw (add-zero at) (omega arith)

-- Equal bytes spell equal numbers.
pub number_ext : (s t : List ℕ) (a b n : ℕ) → ((k : ℕ) → k < n → get_or s (a + k) 0 ≡ get_or t (b + k) 0) → number_at s a n ≡ number_at t b n
unfolding number_at
number_ext s t a b zero h = refl
number_ext s t a b (suc n) h = rw (number_ext s t a b n (λ k l. h k (omega arith)), h n (omega arith))

-- A number after m bytes.
pub number-after : (p q r : List ℕ) (m n : ℕ) → length p ≡ m → length q ≡ n → number_at (p ++ (q ++ r)) m n ≡ number_at q 0 n
number-after p q r m n e f =
    number_ext (p ++ (q ++ r)) q m 0 n (λ k h.
    ap (λ (j : ℕ). get_or (p ++ (q ++ r)) (j + k) 0) (sym e)
    ∙ get_or-append-add p (q ++ r) k 0
    ∙ get_or-append q r 0 k (omega arith)
    ∙ ap (λ (j : ℕ). get_or q j 0) (omega arith))

-- The bytes of a part are bytes.
pub octets_drop : (n : ℕ) (s : List ℕ) → Octets s → Octets (drop n s)
octets_drop n s b i = rw (get_or-drop n s i 0) (b (n + i))

pub octets_take : (n : ℕ) (s : List ℕ) → Octets s → Octets (take n s)
octets_take zero s b i = omega arith
octets_take (suc n) [] b i = omega arith
octets_take (suc n) (x ∷ s) b zero = b 0
octets_take (suc n) (x ∷ s) b (suc i) = octets_take n s (λ j. b (suc j)) i

pos : (n : ℕ) → 0 < 256 ^ n
pos zero = omega arith
pos (suc n) = rw (pow-suc 256 n) (let h = pos n in omega arith)

-- A number has room in the bytes that it was read from.
pub number-room : (s : List ℕ) (at n : ℕ) → Octets s → number_at s at n < 256 ^ n
unfolding number_at
number-room s at zero b = omega arith
number-room s at (suc n) b = rw (pow-suc 256 n) (digits_lt (number-room s at n b) (b (at + n)))

-- The number of 8 bytes as std puts it together.
pub eight : (s : List ℕ) → from_be_bytes w64 s ≡ number_at s 0 8
unfolding number_at
eight s = omega arith

-- Zeros spell 0.
number_zeros : (s : List ℕ) (at n : ℕ) → ((k : ℕ) → k < n → get_or s (at + k) 0 ≡ 0) → number_at s at n ≡ 0
unfolding number_at
number_zeros s at zero h = refl
number_zeros s at (suc n) h = rw (number_zeros s at n (λ k l. h k (omega arith)), h n (omega arith)) (omega arith)

-- The n bytes q of s from `at` spell behind m zeros what they spell there.
pub behind_zeros : (s q r : List ℕ) (at m n : ℕ) → m ≤ 8 → at + n ≤ length s → q ≡ take n (drop at s) → number_at (take m (replicate 8 0) ++ (q ++ r)) 0 (m + n) ≡ number_at s at n
behind_zeros s q r at m n w h e =
    let p : List ℕ = take m (replicate 8 0) in
    let front : length p ≡ m = length-take-le m (replicate 8 0) (omega (arith, w)) in
    let len : length q ≡ n = ap length e ∙ length-take-le n (drop at s) (omega (arith, length-drop at s)) in
    let zeros : number_at (p ++ (q ++ r)) 0 m ≡ 0 =
    number_zeros (p ++ (q ++ r)) 0 m (λ k l.
    get_or-append p (q ++ r) 0 (0 + k) (omega arith)
    ∙ get_or-take m (replicate 8 0) (0 + k) 0 (omega arith)
    ∙ get_or-replicate 8 (0 + k) 0 0 (omega arith)) in
    let own : number_at q 0 n ≡ number_at s at n =
    number_ext q s 0 at n (λ k l.
    rw (e, get_or-take n (drop at s) (0 + k) 0 (omega arith), get_or-drop at s (0 + k) 0) (ap (λ (j : ℕ). get_or s j 0) (omega arith))) in
    let last : number_at (p ++ (q ++ r)) (0 + m) n ≡ number_at s at n =
    ap (λ (j : ℕ). number_at (p ++ (q ++ r)) j n) (omega arith) ∙ number-after p q r m n front len ∙ own in
    number-add (p ++ (q ++ r)) 0 m n ∙ rw (zeros, last) (omega arith)

-- So they are read as the last of 8 bytes.
pub read_of : (s q : List ℕ) (at n : ℕ) → n ≤ 8 → at + n ≤ length s → q ≡ take (at + n - at) (drop at s) → from_be_bytes w64 (put_mid (8 - n) (8 - (8 - n)) (replicate 8 0) q) ≡ number_at s at n
read_of s q at n w h e =
    let z = put_mid (8 - n) (8 - (8 - n)) (replicate 8 0) q in
    let all : 8 ≡ 8 - n + n = omega arith in
    let part : at + n - at ≡ n = omega arith in
    eight z ∙ ap (λ (k : ℕ). number_at z 0 k) all ∙ behind_zeros s q (post_of (8 - n) (8 - (8 - n)) (replicate 8 0)) at (8 - n) n (omega arith) h (rw part at e)

pub length_octets : (n v : ℕ) → length (octets_of n v) ≡ n
unfolding octets_of
length_octets zero v = refl
length_octets (suc n) v = rw (length-append, length_octets n (v / 256)) (omega arith)

-- The bytes of v, n high and m low.
octets_add : (n m v : ℕ) → octets_of (n + m) v ≡ octets_of n (v / 256 ^ m) ++ octets_of m v
unfolding octets_of
octets_add n zero v = simp (add-zero, pow-zero, div-one, append-nil)
octets_add n (suc m) v =
    rw (add-suc n m, octets_add n m (v / 256), append_assoc)
    (ap (λ (k : ℕ). octets_of n k ++ octets_of (suc m) v) (div-div-eq-div-mul v 256 (256 ^ m) ∙ ap (λ (k : ℕ). v / k) (mul_comm 256 (256 ^ m) ∙ sym (pow-suc 256 m))))

byte_is : (n v : ℕ) → byte_at n v ≡ v / 256 ^ n % 256
byte_is zero v = rw (pow-zero, div-one) refl
byte_is (suc n) v = refl

-- The bytes of a number as std takes it apart.
pub high_first : (n v : ℕ) → bytes_high_first n v ≡ octets_of n v
unfolding octets_of
high_first zero v = refl
high_first (suc n) v =
    let e : suc n ≡ 1 + n = omega arith in
    rw (byte_is n v, high_first n v) (sym (ap (λ (k : ℕ). octets_of k v) e ∙ octets_add 1 n v))

-- The last n of its 8 bytes are its bytes, n of them, so these are stored.
pub stored_of : (s q : List ℕ) (at n v : ℕ) → n ≤ 8 → at + n ≤ length s → q ≡ take (8 - (8 - n)) (drop (8 - n) (to_be_bytes w64 v)) → put_mid at (at + n - at) s q ≡ sets s at (octets_of n v)
stored_of s q at n v w h e =
    let m = 8 - n in
    let high = octets_of m (v / 256 ^ n) in
    let own = octets_of n v in
    let len : length own ≡ n = length_octets n v in
    let all : 8 ≡ m + n = omega arith in
    let part : at + n - at ≡ n = omega arith in
    let whole : octets_of 8 v ≡ high ++ own = ap (λ (k : ℕ). octets_of k v) all ∙ octets_add m n v in
    let is : q ≡ own = e ∙ rw (high_first 8 v, whole, drop_at high own m (length_octets m _)) (take_all _ own (omega arith)) in
    rw (is, part, sets-eq own s at (omega arith), append_assoc, len, drop-drop n at s) refl

-- The bytes of v spell v.
pub number_octets : (n v : ℕ) → v < 256 ^ n → number_at (octets_of n v) 0 n ≡ v
unfolding number_at octets_of
number_octets zero v h = omega arith
number_octets (suc n) v h =
    let hi = octets_of n (v / 256) in
    let len : length hi ≡ n = length_octets n (v / 256) in
    let h' : v < 256 ^ n * 256 = subst (λ (k : ℕ). v < k) (pow-suc 256 n) h in
    let top : number_at (hi ++ (v % 256 ∷ [])) 0 n ≡ v / 256 =
    number_ext (hi ++ (v % 256 ∷ [])) hi 0 0 n (λ k l. get_or-append hi (v % 256 ∷ []) 0 (0 + k) (omega arith))
    ∙ number_octets n (v / 256) (omega arith) in
    let last : get_or (hi ++ (v % 256 ∷ [])) (0 + n) 0 ≡ v % 256 = get_or_at hi (v % 256) [] 0 (0 + n) (omega arith) in
    omega arith

-- The bytes of the number that was read are the bytes there.
pub octets_number : (s : List ℕ) (at n : ℕ) → Octets s → at + n ≤ length s → octets_of n (number_at s at n) ≡ take n (drop at s)
unfolding number_at octets_of
octets_number s at zero b h = refl
octets_number s at (suc n) b h =
    let low : get_or s (at + n) 0 < 256 = b (at + n) in
    let len : length (drop at s) ≡ length s - at = length-drop at s in
    rw (digits_div (number_at s at n) low, digits_mod (number_at s at n) low, octets_number s at n b (omega arith), take-suc (drop at s) n 0 (omega arith), get_or-drop at s n 0)
