-- What a stretch of calls with their answers keeps to: over calls and answers alone. Assumes nothing.
use Rattle.std.specs.Prelude.{◌≡◌, true, false, ◌↔◌, List, [], ◌∷◌, ◌++◌, ℕ, ◌+◌, ◌*◌, ◌≤◌, ◌<◌}
use Rattle.marker_flows.specs.declared.Flow.{Flow}
use Rattle.marker_rules.specs.Bucket.{million, top_of}
use Rattle.marker_rules.specs.Told.{Told, Passed, instants, span_of, of_flow, unmarked_bytes, instants_of}

module _ (w : Flow) where
  -- What a flow may have left unmarked over these instants, in millionths of a byte: 1,000,000 times its depth plus rate times span.
  abbrev pub allowed : List ℕ → ℕ
  allowed ts = top_of w + w.rate * span_of ts

  -- 1,000,000 times the unmarked bytes is at most that.
  abbrev pub Within : (bytes : ℕ) → List ℕ → Type 0
  Within bytes ts = million * bytes ≤ allowed ts

  -- THE BOUND for flow f: every stretch of the calls, which is any cut of the list, keeps to it. Its span is that of all accepted calls in it.
  abbrev pub Bounded : (f : ℕ) → List Told → Type 0
  Bounded f hs =
      (before these later : List Told) → hs ≡ before ++ (these ++ later) → Within (unmarked_bytes (of_flow f these)) (instants these)

  -- The same for every stretch of the flow's own packets: its span is from one of them to another.
  abbrev pub OwnBounded : List Passed → Type 0
  OwnBounded ps = (before these later : List Passed) → ps ≡ before ++ (these ++ later) → Within (unmarked_bytes these) (instants_of these)

  -- After the packets `done` of the flow there is need to mark p: a stretch that ends with p would break the bound with p unmarked as well.
  pub record Needed (done : List Passed) (p : Passed) : Type 0 where
    pub before : List Passed
    pub these : List Passed
    pub split : done ≡ before ++ these
    pub over : allowed (instants_of (these ++ p ∷ [])) < million * (unmarked_bytes these + p.len)

  -- NOTHING IS MARKED WITHOUT NEED, and with need everything is: a packet of the flow is marked exactly if it has to be.
  abbrev pub MarksExactly : List Passed → Type 0
  MarksExactly ps = (done : List Passed) (p : Passed) (later : List Passed) → ps ≡ done ++ p ∷ later → (p.unmarked ≡ false) ↔ Needed done p

-- The bound over the calls is that over the flow's own packets: in whatever list of calls with answers it is kept, it is kept there.
abbrev pub BoundIsOwn : Type 0
BoundIsOwn = (w : Flow) (f : ℕ) (hs : List Told) → Bounded w f hs → OwnBounded w (of_flow f hs)

-- The packet as another marker would have left it.
abbrev pub left_unmarked : Passed → Passed
left_unmarked p = record { len = p.len; at = p.at; unmarked = true }

-- NO OTHER MARKER leaves more unmarked from the same history: any calls with answers in which the flow's packets are those that were done, and
-- then p unmarked where there is need to mark it, break the bound.
abbrev pub InExcess : Type 0
InExcess =
    (w : Flow) (f : ℕ) (done : List Passed) (p : Passed) (hs : List Told)
    → Needed w done p
    → of_flow f hs ≡ done ++ left_unmarked p ∷ []
    → Bounded w f hs
    → ⊥
