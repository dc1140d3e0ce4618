-- The promises of the marker's calls for C hosts, through the definitions of the calls below them; and lists of such calls. Assumes nothing.
use Rattle.std.specs.Prelude.{◌≡◌, cond, List, [], ◌∷◌, map, ℕ, eqb}
use Rattle.std.proofs.Math.Option.{Option, none, some}
use Rattle.refusals.specs.declared.Refusal.{Refusal}
use Rattle.refusals.specs.Named.{named}
use Rattle.marker_flows.specs.declared.Flows.{Flows}
use Rattle.marker_rules.specs.Step.{Call, Answer, unmarked, marked, refused, fresh}
use Rattle.marker_rules.specs.Numbers.{numbers_of}
use Rattle.marker_rules.specs.Told.{Told, told}
use Rattle.marker_rules.specs.Promises.{Keeps}
use Rattle.marker.specs.Words.{Words, Sized}
use Rattle.marker.specs.Calls.{open_of, open_words, mark_of, mark_words}
use Rattle.marker.specs.Machine.{in_force}
use Rattle.marker.specs.Promises.{Opens, Marks}
use Rattle.bilgethrum_values.specs.declared.HostMarking.{HostMarking}
use Rattle.bilgethrum_values.specs.Host.{host_marker_opening, host_marking}

-- OPEN A MARKER: what the marker's opening gives, and its words.
pub record HostOpensMarker (asked : Flows) (before : Words) (n : ℕ) (left : Words) : Type 0 where
  pub value : n ≡ host_marker_opening (open_of asked)
  pub opens : Opens asked before (open_of asked) left

-- MARK: what the marker gives, and its words.
pub record HostMarks (w : Words) (c : Call) (x : HostMarking) (left : Words) : Type 0 where
  pub value : x ≡ host_marking (mark_of w c)
  pub marks : Marks w c (mark_of w c) left

-- The answer's two numbers, as the host reads them off its struct: refusal, and 1 if the packet is marked.
abbrev pub marking_read : HostMarking → List ℕ
marking_read x = x.refusal ∷ x.marked ∷ []

-- Over a list of calls.
unfoldable pub markings_read : Words → List Call → List (List ℕ)
markings_read w [] = []
markings_read w (c ∷ cs) = marking_read (host_marking (mark_of w c)) ∷ markings_read (mark_words w c) cs

-- The same by the rules.
abbrev pub told_numbers : Told → List ℕ
told_numbers h = numbers_of h.answer

-- THE THEOREM: on a marker that was opened, whatever stood there, every list of calls is answered as the rules answer it.
abbrev pub AllMarkingsFaithful : Type 0
AllMarkingsFaithful =
    (asked : Flows) (before : Words)
    → Sized before
    → (cs : List Call)
    → markings_read (open_words asked before) cs ≡ map told_numbers (told (in_force asked) (fresh (in_force asked)) cs)

-- The refusal of a number; which it is of a number that is none's does not matter.
abbrev pub refusal_taken : Option Refusal → Refusal
refusal_taken none = Refusal.Flow
refusal_taken (some r) = r

-- The answer as a host takes it from these numbers: refused where the refusal is not 0, else marked where the other is not.
abbrev pub answer_taken : (refusal marked : ℕ) → Answer
answer_taken n m = cond (eqb n 0) (cond (eqb m 0) unmarked marked) (refused (refusal_taken (named n)))

-- The calls with the answers that the host takes.
unfoldable pub host_told : Words → List Call → List Told
host_told w [] = []
host_told w (c ∷ cs) =
    record { call = c; answer = answer_taken (host_marking (mark_of w c)).refusal (host_marking (mark_of w c)).marked } ∷ host_told (mark_words w c) cs

-- For every flow the bound and that nothing is marked without need, of the answers that a host takes.
abbrev pub HostBounds : Type 0
HostBounds = (asked : Flows) (before : Words) → Sized before → (cs : List Call) → Keeps (in_force asked) (host_told (open_words asked before) cs)

-- Each promise leaves one possible answer and one content of the words.
abbrev pub OneHostMarkerOpening : Type 0
OneHostMarkerOpening =
    (asked : Flows) (b : Words) (n m : ℕ) (left other : Words)
    → HostOpensMarker asked b n left
    → HostOpensMarker asked b m other
    → (n ≡ m) × (left ≡ other)

abbrev pub OneHostMarking : Type 0
OneHostMarking =
    (w : Words) (c : Call) (x y : HostMarking) (left other : Words)
    → HostMarks w c x left
    → HostMarks w c y other
    → (x ≡ y) × (left ≡ other)
