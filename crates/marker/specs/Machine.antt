-- Lists of calls on the code: the words they leave and the answers they give. Assumes nothing.
use Rattle.std.specs.Prelude.{◌≡◌, List, [], ◌∷◌}
use Rattle.marker_flows.specs.declared.Flows.{Flows}
use Rattle.marker_flows.specs.Flows.{flows_of}
use Rattle.marker_rules.specs.Terms.{Terms}
use Rattle.marker_rules.specs.Step.{Call, Marker, fresh, after}
use Rattle.marker_rules.specs.Told.{Told}
use Rattle.marker_rules.specs.Open as rules
use Rattle.marker.specs.Words.{Words, Sized}
use Rattle.marker.specs.Calls.{open_words, mark_of, mark_words}
use Rattle.marker.specs.Values.{answer_read}

-- The words after a list of calls.
unfoldable pub words_after : Words → List Call → Words
words_after w [] = w
words_after w (c ∷ cs) = words_after (mark_words w c) cs

-- The calls with their answers.
unfoldable pub told_by : Words → List Call → List Told
told_by w [] = []
told_by w (c ∷ cs) = record { call = c; answer = answer_read (mark_of w c) } ∷ told_by (mark_words w c) cs

-- The terms that an opening puts in force.
abbrev pub in_force : Flows → Terms
in_force asked = (rules.opening (flows_of asked)).terms

-- THE PREMISE of a call: these words come from an opening, over words of the lent length, and calls on them.
pub record FromOpening (w : Words) : Type 0 where
  pub asked : Flows
  pub lent : Words
  pub calls : List Call
  pub sized : Sized lent
  pub words : w ≡ words_after (open_words asked lent) calls

-- WHAT THEY STAND FOR: the marker of the rules after the same opening and the same calls, under the terms in force.
abbrev pub terms_by : {w : Words} → FromOpening w → Terms
terms_by o = in_force o.asked

abbrev pub marker_by : {w : Words} → FromOpening w → Marker
marker_by o = after (terms_by o) (fresh (terms_by o)) o.calls
