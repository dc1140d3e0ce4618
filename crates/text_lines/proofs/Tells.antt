-- Texts told one after the other. Assumes nothing.
use mathlib.Core.Path.{◌≡◌, refl, ◌∙◌}
use mathlib.Core.List.{List, [], ◌++◌}
use Prim.Native.Nat.{ℕ, ◌+◌, ◌<◌}
use native.Mathlib.Omega.{arith}
use lib.ListN.{length, length-append}
use Rattle.text_digits.specs.declared.Area.{Area}
use Rattle.text_digits.specs.Put.{Put, Puts}
use Rattle.text_digits.proofs.Puts.{put_then, put_length}
use Rattle.text_lines.specs.Told.{Told, Tells}

-- A text that was put was told.
pub told-put : {l m : List ℕ} {at p : ℕ} {xs : List ℕ} → Put l at xs m p → Told l at xs m p
told-put a = record { place = a.place; stored = λ h. a.stored }

-- A text for which there is no room is told by its length.
pub told_only : {l : List ℕ} {at p : ℕ} {xs : List ℕ} → p ≡ at + length xs → length l < at + length xs → Told l at xs l p
told_only e h = record { place = e; stored = λ k. absurd (omega arith) }

pub told_then : {l m n : List ℕ} {at p q : ℕ} {xs ys : List ℕ} → Told l at xs m p → length m ≡ length l → Told m p ys n q → Told l at (xs ++ ys) n q
told_then {l} {m} {n} {at} {p} {q} {xs} {ys} a e b =
    let sum = length-append xs ys in
    record {
      place = omega (arith, a.place, b.place);
      stored =
          λ h.
          (put_then {l = l} {m = m} {n = n} {at = at} {p = p} {q = q} {xs = xs} {ys = ys}
          (record { place = a.place; stored = a.stored (omega arith) })
          (record { place = b.place; stored = b.stored (omega (arith, a.place)) })
          ).stored;
    }

-- The same of areas.
pub tells_put : {a b : Area} {xs : List ℕ} → Puts a xs b → Tells a xs b
tells_put p = record { told = told-put p.put; long = put_length p.put; lent = p.lent }

pub tells_only : {a : Area} {p : ℕ} {xs : List ℕ} → p ≡ a.at + length xs → length a.out.now < a.at + length xs → Tells a xs (record a { at = p })
tells_only e h = record { told = told_only e h; long = refl; lent = refl }

pub tells_none : (a : Area) → Tells a [] a
tells_none a = record { told = record { place = omega arith; stored = λ h. refl }; long = refl; lent = refl }

pub tells_then : {a b c : Area} {xs ys : List ℕ} → Tells a xs b → Tells b ys c → Tells a (xs ++ ys) c
tells_then p q = record { told = told_then p.told p.long q.told; long = q.long ∙ p.long; lent = q.lent ∙ p.lent }

-- What was lent to an area has then what the area had.
pub told_back : {a b : Area} {l : List ℕ} {xs : List ℕ} → Tells a xs b → l ≡ b.out.now → Told a.out.now a.at xs l b.at
told_back {a} {b} {l} {xs} t e = rw e t.told
