-- The numbers of each case of each answer, and the rules' answer that it is. Assumes nothing.
use Rattle.std.specs.Prelude.{List, ℕ, Result, Ok, Err}
use Rattle.refusals.specs.declared.Refusal.{Refusal}
use Rattle.refusals.specs.Numbers.{number}
use Rattle.units.specs.declared.Marking.{Marking}
use Rattle.marker_rules.specs.Step as rules
use Rattle.marker_rules.specs.Numbers.{numbers_of}

-- The number of an opening: 0 if it is not refused.
abbrev pub opening_number : Result (Unit {0}) Refusal → ℕ
opening_number (Ok u) = 0
opening_number (Err r) = number r

-- The answer by the rules.
abbrev pub answer_read : Result Marking Refusal → rules.Answer
answer_read (Ok Marking.Unmarked) = rules.unmarked
answer_read (Ok Marking.Marked) = rules.marked
answer_read (Err r) = rules.refused r

-- The numbers of an answer: its refusal, and 1 if the packet is marked. Those that an answer has no use for are 0.
abbrev pub answer_values : Result Marking Refusal → List ℕ
answer_values a = numbers_of (answer_read a)
