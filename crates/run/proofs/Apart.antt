-- The text of a refused image tells its refusal. Assumes nothing.
use mathlib.Core.Path.{◌≡◌, refl, sym, ap, ◌∙◌}
use mathlib.Core.List.{List, [], ◌∷◌, append-nil}
use Prim.Native.Nat.{ℕ}
use native.Mathlib.Omega.{arith}
use Rattle.std.specs.Prelude.{Result, Ok, Err}
use Rattle.refusals.specs.Numbers.{number}
use Rattle.refusals.proofs.Named.{number_most, number_injective}
use Rattle.block_image.specs.declared.Trace.{Trace}
use Rattle.block_image.specs.declared.ImageRefusal.{ImageRefusal}
use Rattle.block_image.specs.Image.{judged}
use Rattle.block_image.proofs.Named.{refused-small}
use Rattle.text.proofs.ReadBack.{lines_read_back}
use Rattle.run_events.proofs.Letters.{trace_no_x}
use Rattle.run.specs.Text.{judged_text}
use Rattle.run.specs.Apart.{TextTellsRefusal}

-- One line tells its three numbers, and the first its refusal.
module _ (image other : List ℕ) (r : ImageRefusal) (refused-so : judged image ≡ Err r) where
  by-other : (x : Result Trace ImageRefusal) → judged other ≡ x → judged_text image (Err r) ≡ judged_text other x → x ≡ Err r
  by-other (Ok t) e h = absurd (trace_no_x other t.settings t.events _ h)
  by-other (Err q) e h =
      let a = refused-small image r.refusal r.block r.«record» refused-so in
      let b = refused-small other q.refusal q.block q.«record» e in
      let t =
      lines_read_back 88 88 (number r.refusal ∷ r.block ∷ r.«record» ∷ []) (number q.refusal ∷ q.block ∷ q.«record» ∷ []) [] []
      (omega (arith, number_most r.refusal), (omega (arith, a.1), (omega (arith, a.2), tt)))
      (omega (arith, number_most q.refusal), (omega (arith, b.1), (omega (arith, b.2), tt)))
      (append-nil _ ∙ h ∙ sym (append-nil _))
      in
      let same : (number r.refusal ∷ r.block ∷ r.«record» ∷ []) ≡ (number q.refusal ∷ q.block ∷ q.«record» ∷ []) = t.1 in
      let n : q.refusal ≡ r.refusal = number_injective q.refusal r.refusal cc in
      let c : q.block ≡ r.block = cc in
      let i : q.«record» ≡ r.«record» = cc in
      ap Err (λ j. record { refusal = n j; block = c j; «record» = i j })

pub text_tells_refusal : TextTellsRefusal
text_tells_refusal image other r refused-so h =
    by-other image other r refused-so (judged other) refl (sym (ap (judged_text image) refused-so) ∙ h)
