-- What each call gives, and what it leaves in the words: exactly, for accepted and refused calls alike. Assumes nothing.
use Rattle.std.specs.Prelude.{Bool, true, false, cond, List, [], ◌∷◌, ℕ, suc, ◌*◌, ◌-◌, leb, length, set, Result}
use Rattle.std.proofs.Math.Option.{Option, none, some}
use Rattle.refusals.specs.declared.Refusal.{Refusal}
use Rattle.refusals.specs.First.{first_refusal, answer_by}
use Rattle.units.specs.declared.Marking.{Marking}
use Rattle.units.specs.Limits.{length_most, instant_most}
use Rattle.marker_flows.specs.declared.Flow.{Flow}
use Rattle.marker_flows.specs.declared.Flows.{Flows}
use Rattle.marker_flows.specs.Flows.{open_tests, least_flow, flows_of}
use Rattle.marker_rules.specs.Bucket.{million, filled_to}
use Rattle.marker_rules.specs.Step.{Call, packet_tests}
use Rattle.marker.specs.Words.{Words, clock_in, count_in, rate_in, top_in, held_in, looked_in, holding, full_words}

-- OPEN. The words of these flows, the first of them as flow i.
abbrev pub laid : Words → (i : ℕ) → List Flow → Words
laid w i [] = w
laid w i (x ∷ xs) = laid (record { clock = w.clock; count = w.count; flows = set w.flows i (full_words x) }) (suc i) xs

-- A clock at 0, their count and their words.
abbrev pub laid_all : Words → List Flow → Words
laid_all w xs = laid (record { clock = 0; count = length xs; flows = w.flows }) 0 xs

-- The refusal of an opening, if there is one.
abbrev pub open_refusal : Flows → Option Refusal
open_refusal asked = first_refusal (open_tests (flows_of asked))

-- An opening: the answer.
abbrev pub open_of : Flows → Result (Unit {0}) Refusal
open_of asked = answer_by (open_refusal asked) tt

-- The words by that refusal: for the flows asked for, or for one at its least where they are refused.
abbrev pub opening_words : Option Refusal → Flows → Words → Words
opening_words none asked w = laid_all w (flows_of asked)
opening_words (some r) asked w = laid_all w (least_flow ∷ [])

-- An opening: the words at exit.
unfoldable pub open_words : Flows → Words → Words
open_words asked w = opening_words (open_refusal asked) asked w

-- MARK. A packet of a flow as the rules' call.
abbrev pub call_of : (flow len at : ℕ) → Call
call_of flow len at = record { flow = flow; len = len; at = at }

-- Its refusal, if there is one.
abbrev pub refusal_in : Words → Call → Option Refusal
refusal_in w c = first_refusal (packet_tests (count_in w) length_most instant_most (clock_in w) c)

-- What flow f's bucket holds at t.
abbrev pub level_in : Words → (f t : ℕ) → ℕ
level_in w f t = filled_to (top_in w f) (held_in w f) (rate_in w f) (t - looked_in w f)

-- The bucket holds the packet's whole length.
abbrev pub holds_in : Words → Call → Bool
holds_in w c = leb (million * c.len) (level_in w c.flow c.at)

-- What it holds then: an unmarked packet is paid for, and of a marked one nothing is taken.
abbrev pub held_then : (unmarked : Bool) → (level len : ℕ) → ℕ
held_then unmarked level len = cond unmarked (level - million * len) level

-- The marking by whether the bucket holds it.
abbrev pub marking : (unmarked : Bool) → Marking
marking true = Marking.Unmarked
marking false = Marking.Marked

-- A packet: the answer.
unfoldable pub mark_of : Words → Call → Result Marking Refusal
mark_of w c = answer_by (refusal_in w c) (marking (holds_in w c))

-- Every refusal leaves the words as they were.
abbrev pub marking_words : Option Refusal → (unmarked : Bool) → Words → Call → Words
marking_words none unmarked w c = holding w c.flow (held_then unmarked (level_in w c.flow c.at) c.len) c.at
marking_words (some r) unmarked w c = w

-- A packet: the words at exit.
unfoldable pub mark_words : Words → Call → Words
mark_words w c = marking_words (refusal_in w c) (holds_in w c) w c
