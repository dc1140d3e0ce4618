-- The code gives the rules' answers, and its words stand for the rules' marker. Assumes nothing.
use Rattle.std.specs.Prelude.{◌≡◌, List}
use Rattle.marker_flows.specs.declared.Flows.{Flows}
use Rattle.marker_rules.specs.Step.{Call, fresh, after}
use Rattle.marker_rules.specs.Told.{told}
use Rattle.marker.specs.Words.{Words, Sized}
use Rattle.marker.specs.Calls.{open_words}
use Rattle.marker.specs.Machine.{words_after, told_by, in_force, FromOpening, terms_by, marker_by}
use Rattle.marker.specs.Stands.{Stands}

-- An opening and the calls cs on it, over lent words that hold anything.
pub record Faithful (asked : Flows) (lent : Words) (cs : List Call) : Type 0 where
  pub told : told_by (open_words asked lent) cs ≡ told (in_force asked) (fresh (in_force asked)) cs
  pub stands : Stands (in_force asked) (words_after (open_words asked lent) cs) (after (in_force asked) (fresh (in_force asked)) cs)

-- THE THEOREM: for every list of calls from every opening.
abbrev pub AllFaithful : Type 0
AllFaithful = (asked : Flows) (lent : Words) → Sized lent → (cs : List Call) → Faithful asked lent cs

-- Words that come from an opening stand for the rules' marker: what a bucket holds there is the definition's content.
abbrev pub ContentKept : Type 0
ContentKept = (w : Words) (o : FromOpening w) → Stands (terms_by o) w (marker_by o)
