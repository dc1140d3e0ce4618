-- One line more of text. Assumes nothing.
use mathlib.Core.Path.{◌≡◌, refl, sym, ap, ◌∙◌}
use mathlib.Core.List.{List, [], ◌∷◌, ◌++◌, append_assoc, append-nil}
use Prim.Native.Nat.{ℕ}
use Rattle.text.specs.Text.{line_text, values_text, lines_text}

pub lines-append : (a b : List (List ℕ)) → lines_text (a ++ b) ≡ lines_text a ++ lines_text b
lines-append [] b = refl
lines-append ([] ∷ a) b = lines-append a b
lines-append ((letter ∷ vs) ∷ a) b =
    ap (λ (t : List ℕ). line_text letter vs ++ t) (lines-append a b)
    ∙ sym (append_assoc (line_text letter vs) (lines_text a) (lines_text b))

one_line : (l : List ℕ) → lines_text (l ∷ []) ≡ values_text l
one_line [] = refl
one_line (letter ∷ vs) = append-nil (line_text letter vs)

pub lines_more : (a : List (List ℕ)) (l : List ℕ) → lines_text (a ++ l ∷ []) ≡ lines_text a ++ values_text l
lines_more a l = lines-append a (l ∷ []) ∙ ap (λ (t : List ℕ). lines_text a ++ t) (one_line l)
