-- The marker as its words hold it: the clock, how many flows were opened, then four words for each of 8 flows. Assumes nothing.
use Rattle.std.specs.Prelude.{◌≡◌, ℕ, length, get_or, set, replicate}
use Rattle.marker_flows.specs.declared.Flow.{Flow}
use Rattle.marker_flows.specs.Flows.{flows_most}
use Rattle.marker_rules.specs.Bucket.{top_of}
use Rattle.marker.specs.declared.FlowWords.{FlowWords}
use Rattle.marker.specs.declared.Marker.{Marker}

-- The words.
abbrev pub Words : Type 0
Words = Marker

-- As many as the calls lend.
abbrev pub Sized : Words → Type 0
Sized w = length w.flows ≡ flows_most

-- A flow's words where none were laid.
abbrev pub no_words : FlowWords
no_words = record { rate = 0; top = 0; held = 0; looked = 0 }

-- Words to lend: zeros, though whatever stands in them counts for nothing.
pub record Empty (w : Words) : Type 0 where
  pub words : w ≡ record { clock = 0; count = 0; flows = replicate flows_most no_words }
  pub sized : Sized w

-- The instant of the last accepted call.
abbrev pub clock_in : Words → ℕ
clock_in w = w.clock

-- How many flows were opened.
abbrev pub count_in : Words → ℕ
count_in w = w.count

-- Flow f's words.
abbrev pub flow_in : Words → (f : ℕ) → FlowWords
flow_in w f = get_or w.flows f no_words

-- Flow f's rate.
abbrev pub rate_in : Words → (f : ℕ) → ℕ
rate_in w f = (flow_in w f).rate

-- Its depth, in millionths of a byte.
abbrev pub top_in : Words → (f : ℕ) → ℕ
top_in w f = (flow_in w f).top

-- What its bucket held when it was last looked at, in millionths of a byte.
abbrev pub held_in : Words → (f : ℕ) → ℕ
held_in w f = (flow_in w f).held

-- When that was.
abbrev pub looked_in : Words → (f : ℕ) → ℕ
looked_in w f = (flow_in w f).looked

-- A flow's words at an opening: its limits, and a full bucket that was looked at at 0.
abbrev pub full_words : Flow → FlowWords
full_words x = record { rate = x.rate; top = top_of x; held = top_of x; looked = 0 }

-- The words once a packet of flow f was accepted at t, and its bucket holds x since.
unfoldable pub holding : Words → (f x t : ℕ) → Words
holding w f x t =
    record {
      clock = t;
      count = w.count;
      flows = set w.flows f (record { rate = rate_in w f; top = top_in w f; held = x; looked = t });
    }
