-- Laws of lists made piece by piece: where each piece stands, and that a list is made of its own pieces. Assumes nothing.
use mathlib.Core.Path.{◌≡◌, refl, ap, ◌∙◌}
use mathlib.Core.List.{List, [], ◌∷◌, ◌++◌, append_assoc, append-nil}
use Prim.Native.Nat.{ℕ, zero, suc, ◌+◌, ◌-◌, ◌*◌, ◌<◌}
use native.Mathlib.Omega.{arith}
use native.Mathlib.Nat.{add-zero, add-suc, mul-suc, mul-zero}
use lib.ListN.{length, get_or, take, drop, length-append}
use lib.Seq.{take_at, drop_at, take-add, ext_get_or, get_or_at}
use Rattle.lists.specs.Rows.{rows, tab}

-- Equal pieces make equal lists.
pub rows_ext : {A : Type 0} (n : ℕ) (f g : ℕ → List A) → ((k : ℕ) → k < n → f k ≡ g k) → rows n f ≡ rows n g
unfolding rows
rows_ext zero f g h = refl
rows_ext (suc n) f g h = rw (rows_ext n f g (λ k l. h k (omega arith)), h n (omega arith))

-- The first n pieces, then m more.
pub rows-add : {A : Type 0} (n m : ℕ) (g : ℕ → List A) → rows (n + m) g ≡ rows n g ++ rows m (λ k. g (n + k))
unfolding rows
rows-add n zero g = rw (add-zero n, append-nil)
rows-add n (suc m) g = rw (add-suc n m, rows-add n m g, append_assoc)

-- The pieces before k, piece k, and the rest.
pub rows_split : {A : Type 0} (n k : ℕ) (g : ℕ → List A) → k < n → rows n g ≡ rows k g ++ (g k ++ rows (n - (k + 1)) (λ j. g (k + 1 + j)))
unfolding rows
rows_split n k g h =
    let e : n ≡ k + 1 + (n - (k + 1)) = omega arith in
    ap (λ (m : ℕ). rows m g) e ∙ rows-add (k + 1) (n - (k + 1)) g
    ∙ ap (λ (l : List _). l ++ rows (n - (k + 1)) (λ j. g (k + 1 + j))) (rows-add k 1 g ∙ ap (λ (m : ℕ). rows k g ++ g m) (add-zero k))
    ∙ append_assoc (rows k g) (g k) _

-- Pieces of one width w.
module _ {A : Type 0} (w : ℕ) where
  pub length-rows : (n : ℕ) (g : ℕ → List A) → ((k : ℕ) → length (g k) ≡ w) → length (rows n g) ≡ w * n
  unfolding rows
  length-rows zero g h = rw (mul-zero w)
  length-rows (suc n) g h = rw (length-append, length-rows n g h, h n, mul-suc w n)

  -- Piece k stands at w * k, whatever follows the pieces.
  pub piece : (n k : ℕ) (g : ℕ → List A) (r : List A) → ((j : ℕ) → length (g j) ≡ w) → k < n → take w (drop (w * k) (rows n g ++ r)) ≡ g k
  piece n k g r h l =
      rw (rows_split n k g l, append_assoc (rows k g) _ r, append_assoc (g k) _ r, drop_at (rows k g) _ (w * k) (length-rows k g h), take_at (g k) _ w (h k))

  -- The pieces of a list make the list.
  pub pieces : (n : ℕ) (s : List A) → rows n (λ k. take w (drop (w * k) s)) ≡ take (w * n) s
  unfolding rows
  pieces zero s = rw (mul-zero w)
  pieces (suc n) s = rw (pieces n s, mul-suc w n, take-add (w * n) w s)

pub length-tab : {A : Type 0} (n : ℕ) (g : ℕ → A) → length (tab n g) ≡ n
length-tab n g = length-rows 1 n (λ k. g k ∷ []) (λ k. refl) ∙ omega arith

-- Element k of a list made by counting up.
pub get_or-tab : {A : Type 0} (n k : ℕ) (g : ℕ → A) (d : A) → k < n → get_or (tab n g) k d ≡ g k
get_or-tab n k g d h = rw (rows_split n k (λ j. g j ∷ []) h) (get_or_at (tab k g) (g k) _ d k (length-tab k g))

-- The elements of a list make the list.
pub tab-get_or : {A : Type 0} (l : List A) (d : A) → tab (length l) (λ k. get_or l k d) ≡ l
tab-get_or l d = ext_get_or d _ l (length-tab (length l) _) (λ i h. get_or-tab (length l) i _ d (omega (arith, length-tab (length l) (λ k. get_or l k d))))
