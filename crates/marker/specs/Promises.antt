-- The promises of the two calls: the exact value, and what it is by the rules; and that each leaves one possible answer and one content of the
-- words. Assumes nothing.
use Rattle.std.specs.Prelude.{◌≡◌, List, Result, Err}
use Rattle.refusals.specs.declared.Refusal.{Refusal}
use Rattle.units.specs.declared.Marking.{Marking}
use Rattle.marker_flows.specs.declared.Flows.{Flows}
use Rattle.marker_flows.specs.Flows.{flows_of}
use Rattle.marker_rules.specs.Step.{Call, step}
use Rattle.marker_rules.specs.Numbers.{numbers_of}
use Rattle.marker_rules.specs.Open as rules
use Rattle.marker.specs.Words.{Words, Sized}
use Rattle.marker.specs.Calls.{open_of, open_words, mark_of, mark_words}
use Rattle.marker.specs.Values.{opening_number, answer_read, answer_values}
use Rattle.marker.specs.Machine.{words_after, FromOpening, terms_by, marker_by}

-- OPEN. `left` are the words at exit: whatever stood there before, they come from an opening, and stand for the rules' fresh marker under the
-- terms that the rules put in force.
pub record Opens (asked : Flows) (before : Words) (r : Result (Unit {0}) Refusal) (left : Words) : Type 0 where
  pub value : r ≡ open_of asked
  pub words : left ≡ open_words asked before
  pub number : opening_number r ≡ (rules.opening (flows_of asked)).number
  pub kept : Sized before → FromOpening left
  pub terms : (z : Sized before) → terms_by (kept z) ≡ (rules.opening (flows_of asked)).terms
  pub stands : (z : Sized before) → marker_by (kept z) ≡ (rules.opening (flows_of asked)).marker

-- One call by the rules, on the marker that the words stand for: the answer and its numbers are the rules', and what is left comes from an
-- opening too, under the same terms, and stands for the rules' next marker.
pub record Steps {w : Words} (o : FromOpening w) (c : Call) (r : Result Marking Refusal) (left : Words) : Type 0 where
  pub answer : answer_read r ≡ (step (terms_by o) (marker_by o) c).answer
  pub numbers : answer_values r ≡ numbers_of (step (terms_by o) (marker_by o) c).answer
  pub next : FromOpening left
  pub terms : terms_by next ≡ terms_by o
  pub stands : marker_by next ≡ (step (terms_by o) (marker_by o) c).marker

-- MARK. A refused packet leaves every word as it was.
pub record Marks (w : Words) (c : Call) (r : Result Marking Refusal) (left : Words) : Type 0 where
  pub value : r ≡ mark_of w c
  pub words : left ≡ mark_words w c
  pub kept : FromOpening left
  pub steps : (o : FromOpening w) → Steps o c r left
  pub refusal : (e : Refusal) → r ≡ Err e → left ≡ w

-- Every list of calls from an opening has the premise.
abbrev pub EveryList : Type 0
EveryList = (asked : Flows) (lent : Words) → Sized lent → (cs : List Call) → FromOpening (words_after (open_words asked lent) cs)

-- Two answers that a promise allows are equal, and so are two contents of the words.
abbrev pub OneOpening : Type 0
OneOpening =
    (asked : Flows) (before : Words) (r q : Result (Unit {0}) Refusal) (left other : Words)
    → Opens asked before r left
    → Opens asked before q other
    → (r ≡ q) × (left ≡ other)

abbrev pub OneMarking : Type 0
OneMarking =
    (w : Words) (c : Call) (r q : Result Marking Refusal) (left other : Words)
    → Marks w c r left
    → Marks w c q other
    → (r ≡ q) × (left ≡ other)
