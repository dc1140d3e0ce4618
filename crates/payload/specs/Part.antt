-- The part of one area where a payload lies, and its refusals. Assumes nothing.
use Rattle.std.specs.Prelude.{◌≡◌, not, List, [], ◌∷◌, ℕ, ◌+◌, ltb, length, take, drop}
use Rattle.std.proofs.Math.Option.{Option, none, some}
use Rattle.std.specs.Borrow.{Bor}
use Rattle.refusals.specs.declared.Refusal.{Refusal}
use Rattle.refusals.specs.Numbers.{number_of}
use Rattle.refusals.specs.First.{Test, first_refusal}
use Rattle.units.specs.Limits.{length_in_range}

-- Refusals of a view: 1 for the length, then 31 for a payload outside its area.
abbrev pub view_tests : (area : List ℕ) (len place : ℕ) → List Test
view_tests area len place =
    record { refusal = Refusal.Length; holds = not (length_in_range len) } ∷ record { refusal = Refusal.OutsideArea; holds = ltb (length area) (place + len) } ∷ []

-- The refusal number of a view, 0 if there is none.
abbrev pub view_refusal : (area : List ℕ) (len place : ℕ) → ℕ
view_refusal area len place = number_of (first_refusal (view_tests area len place))

-- The part of the area from the place, as long as the packet; on refusal that part is empty.
abbrev pub part_of : Option Refusal → (area : List ℕ) (len place : ℕ) → List ℕ
part_of none area len place = take len (drop place area)
part_of (some r) area len place = []

-- Where that part begins in the area.
abbrev pub start_of : Option Refusal → (place : ℕ) → ℕ
start_of none place = place
start_of (some r) place = 0

-- The view is that part of the area itself: it lies in the same block, where the part begins, and holds the part's bytes.
pub record Viewed (area : Bor (List ℕ)) (len place : ℕ) (view : Bor (List ℕ)) : Type 0 where
  pub block : view.ref_ptr.0 ≡ area.ref_ptr.0
  pub start : view.ref_ptr.1 ≡ area.ref_ptr.1 + start_of (first_refusal (view_tests area.now len place)) place
  pub bytes : view.now ≡ part_of (first_refusal (view_tests area.now len place)) area.now len place
