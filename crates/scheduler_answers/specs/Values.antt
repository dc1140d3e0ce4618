-- Document 01's number and values for each case of each answer: with their letter as the trace program prints them, and as five numbers. Assumes nothing.
use Rattle.std.specs.Prelude.{List, [], ◌∷◌, ℕ, Option, Some, None, Result, Ok, Err}
use Rattle.std.proofs.Math.Option as math
use Rattle.refusals.specs.declared.Refusal.{Refusal}
use Rattle.refusals.specs.Numbers.{number}
use Rattle.room.specs.declared.Packet.{Packet}
use Rattle.scheduler_state.specs.declared.Tallies.{Tallies}
use Rattle.scheduler_answers.specs.declared.Admitted.{Admitted}
use Rattle.scheduler_answers.specs.declared.Start.{Start}

-- The number of an opening: 0 if it is not refused.
abbrev pub opening_number : Result (Unit {0}) Refusal → ℕ
opening_number (Ok x) = 0
opening_number (Err r) = number r

-- A n e, M n.
abbrev pub admitted_values : Admitted → List ℕ
admitted_values (Admitted.Unmarked n e) = 65 ∷ n ∷ e.0 ∷ []
admitted_values (Admitted.Marked n) = 77 ∷ n ∷ []

-- R c.
abbrev pub admission_values : Result Admitted Refusal → List ℕ
admission_values (Ok x) = admitted_values x
admission_values (Err r) = 82 ∷ number r ∷ []

-- S n t e k, N.
abbrev pub decision_values : Option Start → List ℕ
decision_values (Some x) = 83 ∷ x.number ∷ x.at.0 ∷ x.extra.0 ∷ x.dropped ∷ []
decision_values None = 78 ∷ []

-- R c.
abbrev pub advance_values : Result (Option Start) Refusal → List ℕ
advance_values (Ok d) = decision_values d
advance_values (Err r) = 82 ∷ number r ∷ []

-- The same as five numbers: refusal, packet number, start, extra delay, packets dropped. Those that an answer has no use for are 0.
abbrev pub admitted_numbers : Admitted → List ℕ
admitted_numbers (Admitted.Unmarked n e) = 0 ∷ n ∷ 0 ∷ e.0 ∷ 0 ∷ []
admitted_numbers (Admitted.Marked n) = 0 ∷ n ∷ 0 ∷ 0 ∷ 0 ∷ []

abbrev pub admission_numbers : Result Admitted Refusal → List ℕ
admission_numbers (Ok x) = admitted_numbers x
admission_numbers (Err r) = number r ∷ 0 ∷ 0 ∷ 0 ∷ 0 ∷ []

abbrev pub decision_numbers : Option Start → List ℕ
decision_numbers (Some x) = 0 ∷ x.number ∷ x.at.0 ∷ x.extra.0 ∷ x.dropped ∷ []
decision_numbers None = 0 ∷ 0 ∷ 0 ∷ 0 ∷ 0 ∷ []

abbrev pub advance_numbers : Result (Option Start) Refusal → List ℕ
advance_numbers (Ok d) = decision_numbers d
advance_numbers (Err r) = number r ∷ 0 ∷ 0 ∷ 0 ∷ 0 ∷ []

-- T and the five tallies.
abbrev pub tally_values : Tallies → List ℕ
tally_values t =
    84 ∷ t.admitted.unmarked ∷ t.admitted.marked ∷ t.started.unmarked ∷ t.started.marked ∷ t.dropped ∷ []

-- The packet that a start hands back.
abbrev pub handed_by : Option Start → math.Option Packet
handed_by (Some x) = math.some x.packet
handed_by None = math.none

abbrev pub handed : Result (Option Start) Refusal → math.Option Packet
handed (Ok d) = handed_by d
handed (Err r) = math.none
