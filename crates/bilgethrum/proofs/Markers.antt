-- The marker's calls for a C host, from the marker's promises. Assumes nothing.
use mathlib.Core.Path.{◌≡◌, refl, sym, ap, subst, subst⁻¹, ◌∙◌}
use mathlib.Core.Bool.{false}
use mathlib.Core.List.{List, [], ◌∷◌, map}
use Prim.Native.Nat.{ℕ}
use native.Mathlib.Omega.{arith}
use lib.Dec.{eqb}
use Rattle.std.proofs.lemmas.Bool.{ne_eqb}
use Rattle.std.specs.Prelude.{Result, Ok, Err}
use Rattle.refusals.specs.declared.Refusal.{Refusal}
use Rattle.refusals.specs.Numbers.{number}
use Rattle.refusals.proofs.Laws.{number_least}
use Rattle.refusals.proofs.Named.{named_number}
use Rattle.units.specs.declared.Marking.{Marking}
use Rattle.marker_flows.specs.declared.Flows.{Flows}
use Rattle.marker_rules.specs.Step.{Call}
use Rattle.marker_rules.specs.Numbers.{numbers_of}
use Rattle.marker_rules.specs.Told.{Told}
use Rattle.marker_rules.specs.Promises.{Keeps}
use Rattle.marker.specs.Words.{Words}
use Rattle.marker.specs.Calls.{open_words, mark_of, mark_words}
use Rattle.marker.specs.Values.{answer_read}
use Rattle.marker.specs.Machine.{told_by, in_force}
use Rattle.marker.specs.Promises.{Opens, Marks}
use Rattle.marker.proofs.Follows.{all-faithful}
use Rattle.marker_guarantees.proofs.Kept.{bounds}
use Rattle.bilgethrum_values.specs.declared.HostMarking.{HostMarking}
use Rattle.bilgethrum_values.specs.Host.{host_marker_opening, host_marking}
use Rattle.bilgethrum.specs.Markers.{HostOpensMarker, HostMarks, marking_read, markings_read, told_numbers, AllMarkingsFaithful, answer_taken, host_told, HostBounds, OneHostMarkerOpening, OneHostMarking}

pub opens-marker : (asked : Flows) (before : Words) (r : Result (Unit {0}) Refusal) (n : ℕ) (left : Words) → Opens asked before r left → n ≡ host_marker_opening r
    → HostOpensMarker asked before n left
opens-marker asked before r n left h e =
    record { value = e ∙ ap host_marker_opening h.value; opens = subst (λ (q : Result (Unit {0}) Refusal). Opens asked before q left) h.value h }

pub marks-by : (w : Words) (c : Call) (r : Result Marking Refusal) (x : HostMarking) (left : Words) → Marks w c r left → x ≡ host_marking r → HostMarks w c x left
marks-by w c r x left h e =
    record { value = e ∙ ap host_marking h.value; marks = subst (λ (q : Result Marking Refusal). Marks w c q left) h.value h }

-- The numbers that a host reads are the rules' numbers of the same answer.
read_alike : (a : Result Marking Refusal) → marking_read (host_marking a) ≡ numbers_of (answer_read a)
read_alike (Ok Marking.Unmarked) = refl
read_alike (Ok Marking.Marked) = refl
read_alike (Err r) = refl

read_told : (w : Words) (cs : List Call) → markings_read w cs ≡ map told_numbers (told_by w cs)
unfolding markings_read told_by
read_told w [] = refl
read_told w (c ∷ cs) = rw (read_alike (mark_of w c), read_told (mark_words w c) cs)

pub all_markings_faithful : AllMarkingsFaithful
all_markings_faithful asked before z cs =
    read_told (open_words asked before) cs ∙ ap (map told_numbers) (all-faithful asked before z cs).told

-- What a host takes the numbers for is the answer that they are of.
taken : (a : Result Marking Refusal) → answer_taken (host_marking a).refusal (host_marking a).marked ≡ answer_read a
taken (Ok Marking.Unmarked) = refl
taken (Ok Marking.Marked) = refl
taken (Err r) =
    let refused : eqb (number r) 0 ≡ false = ne_eqb (number r) 0 (λ e. omega (arith, number_least r)) in
    rw (refused, named_number r) refl

taken-told : (w : Words) (cs : List Call) → host_told w cs ≡ told_by w cs
unfolding host_told told_by
taken-told w [] = refl
taken-told w (c ∷ cs) = rw (taken (mark_of w c), taken-told (mark_words w c) cs)

pub host_bounds : HostBounds
host_bounds asked before z cs =
    subst⁻¹ (λ (hs : List Told). Keeps (in_force asked) hs) (taken-told (open_words asked before) cs) (bounds asked before z cs)

pub one_host_marker_opening : OneHostMarkerOpening
one_host_marker_opening asked b n m left other h k = (h.value ∙ sym k.value, h.opens.words ∙ sym k.opens.words)

pub one_host_marking : OneHostMarking
one_host_marking w c x y left other h k = (h.value ∙ sym k.value, h.marks.words ∙ sym k.marks.words)
