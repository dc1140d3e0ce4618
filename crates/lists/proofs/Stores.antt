-- Laws of runs of stores: one run after another is one run, and what was stored stands there. Assumes nothing.
use mathlib.Core.Path.{◌≡◌, refl, sym, ap, ◌∙◌}
use mathlib.Core.List.{List, [], ◌∷◌, ◌++◌, append_assoc}
use Prim.Native.Nat.{ℕ, suc, ◌+◌, ◌*◌, ◌≤◌, ◌<◌}
use native.Mathlib.Omega.{arith}
use native.Mathlib.Nat.{add-zero, add-suc, suc-add, zero-add}
use native.Mathlib.Numerals.{add-one}
use lib.ListN.{length, get_or, set, take, drop, replicate, length-append, length-set, replicate-append-replicate}
use lib.Seq.{sets, sets-eq, length-sets, set_comm, take_at, drop_at, length-take-le, drop-cons, set_at}
use Rattle.lists.specs.Rows.{rows, tab, over}
use Rattle.lists.proofs.Rows.{length-tab, length-rows}

sets-append : {A : Type 0} (l : List A) (i : ℕ) (xs ys : List A) → sets l i (xs ++ ys) ≡ sets (sets l i xs) (i + length xs) ys
sets-append l i [] ys = rw add-zero
sets-append l i (x ∷ xs) ys = sets-append (set l i x) (suc i) xs ys ∙ rw (suc-add, add-suc)

-- m is l with the n elements vs stored from `at`.
pub record Stored {A : Type 0} (l : List A) (at n : ℕ) (vs m : List A) : Type 0 where
  pub is : m ≡ sets l at vs
  pub count : length vs ≡ n
  pub long : length m ≡ length l

pub stored-none : {A : Type 0} (l : List A) (at : ℕ) → Stored l at 0 [] l
stored-none l at = record { is = refl; count = refl; long = refl }

-- One run of stores.
pub stored : {A : Type 0} (l : List A) (at n : ℕ) (vs m : List A) → length vs ≡ n → m ≡ sets l at vs → Stored l at n vs m
stored l at n vs m e f = record { is = f; count = e; long = ap length f ∙ length-sets l at vs }

-- One more run of stores, right after.
pub stored_more : {A : Type 0} (l : List A) (at n : ℕ) (vs m : List A) (k : ℕ) (ws m' : List A) → Stored l at n vs m → length ws ≡ k → m' ≡ sets m (at + n) ws → Stored l at (n + k) (vs ++ ws) m'
stored_more l at n vs m k ws m' s e f =
    let is' : m' ≡ sets l at (vs ++ ws) = f ∙ rw (s.is, ← s.count) (sym (sets-append l at vs ws)) in
    stored l at (n + k) (vs ++ ws) m' (length-append vs ws ∙ (let c = s.count in omega arith)) is'

-- One more piece of width w.
pub stored_row : {A : Type 0} (w : ℕ) (l : List A) (at i : ℕ) (g : ℕ → List A) (m m' : List A) → ((k : ℕ) → length (g k) ≡ w) → Stored l at (w * i) (rows i g) m → m' ≡ sets m (at + w * i) (g i) → Stored l at (w * (i + 1)) (rows (i + 1) g) m'
unfolding rows
stored_row w l at i g m m' h s f =
    let next = stored_more l at (w * i) (rows i g) m w (g i) m' s (h i) f in
    rw (add-one i) (stored l at (w * suc i) (rows (suc i) g) m' (length-rows w (suc i) g h) next.is)

-- One more of the same element.
pub stored_same : {A : Type 0} (a : A) (l : List A) (at i : ℕ) (m : List A) → Stored l at i (replicate i a) m → Stored l at (i + 1) (replicate (i + 1) a) (set m (at + i) a)
stored_same a l at i m s =
    rw (← replicate-append-replicate i 1 a) (stored_more l at i (replicate i a) m 1 (a ∷ []) (set m (at + i) a) s refl refl)

-- What was stored stands there.
pub window : {A : Type 0} (l : List A) (at n : ℕ) (vs : List A) → length vs ≡ n → at + n ≤ length l → take n (drop at (sets l at vs)) ≡ vs
window l at n vs e h =
    rw (sets-eq vs l at (omega arith), append_assoc, drop_at (take at l) (vs ++ drop (at + length vs) l) at (length-take-le at l (omega arith)), take_at vs (drop (at + length vs) l) n e)

-- From the front, what was stored stands before the elements that were not reached.
pub sets_over : {A : Type 0} (l vs : List A) → length vs ≤ length l → sets l 0 vs ≡ over vs l
sets_over l vs h = sets-eq vs l 0 (rw (zero-add (length vs)) h) ∙ rw (zero-add (length vs))

-- A run of stores before another may be made after it.
set_before : {A : Type 0} (l : List A) (i j : ℕ) (a : A) (vs : List A) → i < j → set (sets l j vs) i a ≡ sets (set l i a) j vs
set_before l i j a [] h = refl
set_before l i j a (v ∷ vs) h = set_before (set l j v) i (suc j) a vs (omega arith) ∙ ap (λ (m : List _). sets m (suc j) vs) (set_comm l j i v a (λ e. omega arith))

pub sets-before : {A : Type 0} (l : List A) (i j : ℕ) (cs vs : List A) → i + length cs ≤ j → sets (sets l j vs) i cs ≡ sets (sets l i cs) j vs
sets-before l i j [] vs h = refl
sets-before l i j (c ∷ cs) vs h =
    ap (λ (m : List _). sets m (suc i) cs) (set_before l i j c vs (omega arith)) ∙ sets-before (set l i c) (suc i) j cs vs (omega arith)

-- A column m in a loop that stores one element a turn: the first i of g over what stood there, l, and as long.
pub record Filled {A : Type 0} (g : ℕ → A) (l : List A) (i : ℕ) (m : List A) : Type 0 where
  pub is : m ≡ over (tab i g) l
  pub long : length m ≡ length l

pub filled_none : {A : Type 0} (g : ℕ → A) (l : List A) → Filled g l 0 l
unfolding rows
filled_none g l = record { is = refl; long = refl }

pub filled_more : {A : Type 0} (g : ℕ → A) (l m : List A) (i : ℕ) (v : A) → i < length l → Filled g l i m → v ≡ g i → Filled g l (i + 1) (set m i v)
unfolding rows
filled_more g l m i v h e f =
    let len : length (tab i g) ≡ i = length-tab i g in
    let len' : length (tab i g ++ (g i ∷ [])) ≡ suc i = length-append (tab i g) (g i ∷ []) ∙ (omega arith) in
    record {
      is = rw (e.is, f, len, drop-cons l i v h, set_at (tab i g) (get_or l i v) (drop (suc i) l) (g i) i len, add-one i) (rw (len', append_assoc));
      long = length-set m i v ∙ e.long;
    }
