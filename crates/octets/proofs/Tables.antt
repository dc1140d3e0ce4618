-- There and back for every table of fields: what was spelled is read, and what was read is spelled. Assumes nothing.
use mathlib.Core.Path.{◌≡◌, refl, sym, subst, ◌∙◌}
use mathlib.Core.List.{List, [], ◌∷◌, ◌++◌, append_assoc}
use Prim.Native.Nat.{ℕ, ◌+◌, ◌≤◌}
use native.Mathlib.Omega.{arith}
use lib.ListN.{length, take, drop, length-append}
use lib.Seq.{take-add, drop-drop}
use Rattle.octets.specs.Octets.{Octets, Field, number_at, octets_of, spelled, size, Roomy, Stands}
use Rattle.octets.proofs.Laws.{length_octets, number_octets, number-after, octets_number}

pub length-spelled : (fs : List Field) → length (spelled fs) ≡ size fs
length-spelled [] = refl
length-spelled (f ∷ fs) = rw (length-append, length_octets f.width f.value, length-spelled fs)

-- A table that was spelled after `at` bytes stands there.
pub spelled-stands : (p : List ℕ) (at : ℕ) (fs : List Field) (r : List ℕ) → length p ≡ at → Roomy fs → Stands (p ++ (spelled fs ++ r)) at fs
spelled-stands p at [] r e h = tt
spelled-stands p at (f ∷ fs) r e h =
    let q = octets_of f.width f.value in
    let len : length q ≡ f.width = length_octets f.width f.value in
    let first : number_at (p ++ (q ++ (spelled fs ++ r))) at f.width ≡ f.value = number-after p q (spelled fs ++ r) at f.width e len ∙ number_octets f.width f.value h.0 in
    let rest : Stands ((p ++ q) ++ (spelled fs ++ r)) (at + f.width) fs = spelled-stands (p ++ q) (at + f.width) fs r (length-append p q ∙ (omega arith)) h.1 in
    let rest : Stands (p ++ (q ++ (spelled fs ++ r))) (at + f.width) fs = subst (λ (x : List ℕ). Stands x (at + f.width) fs) (append_assoc p q (spelled fs ++ r)) rest in
    subst (λ (x : List ℕ). Stands (p ++ x) at (f ∷ fs)) (sym (append_assoc q (spelled fs) r)) (first, rest)

-- A table that stands in bytes spells those bytes.
pub stands-spelled : (s : List ℕ) (at : ℕ) (fs : List Field) → Octets s → at + size fs ≤ length s → Stands s at fs → spelled fs ≡ take (size fs) (drop at s)
stands-spelled s at [] b l h = refl
stands-spelled s at (f ∷ fs) b l h =
    rw (← h.0, octets_number s at f.width b (omega arith), stands-spelled s (at + f.width) fs b (omega arith) h.1, take-add f.width (size fs) (drop at s), drop-drop f.width at s)
