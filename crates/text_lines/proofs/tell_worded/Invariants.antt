-- Told so far: the letter and the numbers before the place, then the words before it. Assumes nothing.
use Rattle.std.proofs.Common.{◌∷◌, ◌++◌, take}
use Rattle.text.specs.Text.{fields_text, words_text}
use Rattle.text_lines.specs.Told.{Tells}
use Rattle.text_lines.proofs.tell_worded.Given as goal

abbrev pub invariant-loop-v : goal.invariant-loop-v
invariant-loop-v l = Tells l.fn.area (l.letter ∷ fields_text (take l.v-index l.numbers)) l.area

abbrev pub invariant-loop-w : goal.invariant-loop-w
invariant-loop-w l = Tells l.fn.area (l.letter ∷ (fields_text l.numbers ++ words_text (take l.w-index l.words))) l.area
