-- The promise of the whole run: the text and its length, or a refusal and nothing written. Assumes nothing.
use Rattle.std.specs.Prelude.{◌≡◌, Bool, true, false, List, ℕ, leb, ℤ, pos, negsuc, length, Result, Ok, Err}
use Rattle.refusals.specs.declared.Refusal.{Refusal}
use Rattle.std.proofs.lemmas.List.Edits.{sets}

-- The answer: the text's length, or the refusal where the area is shorter than the text.
abbrev pub answer_of : (fits : Bool) (text : List ℕ) → Result ℕ Refusal
answer_of true text = Ok (length text)
answer_of false text = Err Refusal.AnswerShort

-- The number returned to a C host: the text's length, or -32 where the area is shorter than the text.
abbrev pub result_of : (fits : Bool) (text : List ℕ) → ℤ
result_of true text = pos (length text)
result_of false text = negsuc 31

-- The area then: the text at its start and the bytes beyond it unchanged, or nothing changed.
abbrev pub area_of : (fits : Bool) (text area : List ℕ) → List ℕ
area_of true text area = sets area 0 text
area_of false text area = area

-- A text put where it fits.
pub record Tells (text before after : List ℕ) (answer : Result ℕ Refusal) : Type 0 where
  pub result : answer ≡ answer_of (leb (length text) (length before)) text
  pub area : after ≡ area_of (leb (length text) (length before)) text before

-- The same with the number.
pub record Answers (text before after : List ℕ) (number : ℤ) : Type 0 where
  pub result : number ≡ result_of (leb (length text) (length before)) text
  pub area : after ≡ area_of (leb (length text) (length before)) text before
