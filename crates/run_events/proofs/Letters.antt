-- The text of a trace does not begin with X, the letter of a refused image. Assumes nothing.
use mathlib.Core.Path.{◌≡◌}
use mathlib.Core.List.{List, [], ◌∷◌, ◌++◌, map}
use Prim.Native.Nat.{ℕ}
use native.Mathlib.Omega.{arith}
use Rattle.units.specs.declared.Settings.{Settings}
use Rattle.rules.specs.Terms.{terms_of}
use Rattle.rules.specs.Line.{unmarked, marked, Tallies, fresh}
use Rattle.rules.specs.Step.{Answer, admitted, started, nothing_due, refused, after, answers}
use Rattle.rules.specs.Printed.{line_of, tally_line}
use Rattle.rules.specs.Open.{opening}
use Rattle.text.specs.Text.{lines_text}
use Rattle.run_events.specs.Trace.{calls_of, trace_text}

first-same : {x y : ℕ} {k l : List ℕ} → x ∷ k ≡ y ∷ l → x ≡ y
first-same h = cc

by-answers : (xs : List Answer) (t : Tallies) (rest : List ℕ) → ¬ (88 ∷ rest ≡ lines_text (map line_of xs ++ tally_line t ∷ []))
by-answers [] t rest h = omega (arith, first-same h)
by-answers (admitted (unmarked p) e ∷ xs) t rest h = omega (arith, first-same h)
by-answers (admitted (marked m) e ∷ xs) t rest h = omega (arith, first-same h)
by-answers (started s ∷ xs) t rest h = omega (arith, first-same h)
by-answers (nothing_due ∷ xs) t rest h = omega (arith, first-same h)
by-answers (refused n ∷ xs) t rest h = omega (arith, first-same h)

pub trace_no_x : (image : List ℕ) (s : Settings) (n : ℕ) (rest : List ℕ) → ¬ (88 ∷ rest ≡ trace_text image s n)
trace_no_x image s n rest h =
    let t = terms_of (opening s).settings in
    by-answers (answers t fresh (calls_of image n)) (after t fresh (calls_of image n)).tallies rest h
