-- Both sides of each line of the marker, as one table under a single statement. Assumes nothing.
use Rattle.std.specs.Prelude.{◌≡◌, List, [], ◌∷◌, ◌++◌, map, ℕ, ◌*◌, replicate}
use Rattle.refusals.specs.declared.Refusal.{Refusal}
use Rattle.marker_flows.specs.declared.Flow.{Flow}
use Rattle.marker_rules.specs.Terms.{terms_of}
use Rattle.marker_rules.specs.Bucket.{million}
use Rattle.marker_rules.specs.Step.{Call, Answer, unmarked, marked, refused, fresh}
use Rattle.marker_rules.specs.Open.{opening}
use Rattle.marker_rules.specs.Told.{Told, told, instants, of_flow, unmarked_bytes}
use Rattle.marker_rules.specs.Stretches.{allowed}

-- A flow, and a packet of a flow.
abbrev pub flow : (rate depth : ℕ) → Flow
flow rate depth = record { rate = rate; depth = depth }

abbrev pub p : (f len t : ℕ) → Call
p f len t = record { flow = f; len = len; at = t }

-- The answers to some calls from an opening.
abbrev pub answer_of : Told → Answer
answer_of h = h.answer

abbrev pub answers_to : List Flow → List Call → List Answer
answers_to ws cs = map answer_of (told (opening ws).terms (opening ws).marker cs)

pub record Case : Type 0 where
  pub got : List Answer
  pub wanted : List Answer

abbrev pub case : List Answer → List Answer → Case
case got wanted = record { got = got; wanted = wanted }

-- The whole depth of 65,535 bytes at one instant: 31 packets of 2,048 bytes and one of 2,047.
abbrev pub whole_depth : (t : ℕ) → List Call
whole_depth t = replicate 31 (p 0 2_048 t) ++ p 0 2_047 t ∷ []

abbrev pub table : List Case
table =
    -- a bucket that holds exactly the length, and a millionth of a byte less; what flowed in before a marked packet is not lost
    case (answers_to (flow 1 100 ∷ []) (p 0 100 0 ∷ p 0 1 1_000_000 ∷ [])) (unmarked ∷ unmarked ∷ [])
    ∷ case (answers_to (flow 1 100 ∷ []) (p 0 100 0 ∷ p 0 1 1 ∷ p 0 1 2 ∷ p 0 1 999_999 ∷ p 0 1 1_000_000 ∷ []))
    (unmarked ∷ marked ∷ marked ∷ marked ∷ unmarked ∷ [])
    -- a span of 10^15 at the least rate and at the largest fills the bucket and no more
    ∷ case (answers_to (flow 1 2_048 ∷ []) (p 0 2_048 0 ∷ p 0 2_048 1_000_000_000_000_000 ∷ p 0 1 1_000_000_000_000_000 ∷ []))
    (unmarked ∷ unmarked ∷ marked ∷ [])
    ∷ case (answers_to (flow 10_000_000 2_048 ∷ []) (p 0 2_048 0 ∷ p 0 2_048 1_000_000_000_000_000 ∷ p 0 1 1_000_000_000_000_000 ∷ []))
    (unmarked ∷ unmarked ∷ marked ∷ [])
    -- depth 1, and depth 65,535 to its last byte, at the longest span that does not yet fill it and one tick later
    ∷ case (answers_to (flow 1 1 ∷ []) (p 0 2 0 ∷ p 0 1 0 ∷ p 0 1 0 ∷ [])) (marked ∷ unmarked ∷ marked ∷ [])
    ∷ case (answers_to (flow 1 65_535 ∷ []) (whole_depth 0 ++ whole_depth 65_534_999_999))
    (replicate 32 unmarked ++ (replicate 31 unmarked ++ marked ∷ []))
    ∷ case (answers_to (flow 1 65_535 ∷ []) (whole_depth 0 ++ (whole_depth 65_535_000_000 ++ p 0 1 65_535_000_000 ∷ [])))
    (replicate 64 unmarked ++ marked ∷ [])
    -- a length above the depth is always marked
    ∷ case (answers_to (flow 10_000_000 100 ∷ []) (p 0 101 0 ∷ p 0 101 1_000_000_000_000_000 ∷ p 0 100 1_000_000_000_000_000 ∷ []))
    (marked ∷ marked ∷ unmarked ∷ [])
    -- a flow's packets leave another's bucket alone
    ∷ case (answers_to (flow 1 100 ∷ flow 1 100 ∷ []) (p 0 100 0 ∷ p 1 100 0 ∷ p 0 1 0 ∷ p 1 1 0 ∷ [])) (unmarked ∷ unmarked ∷ marked ∷ marked ∷ [])
    -- refusals of a packet, in order, and one clock for all flows; a refused packet leaves clock and bucket as they were
    ∷ case
    (answers_to (flow 1 100 ∷ flow 1 100 ∷ [])
    (
    p 1 1 10
    ∷ p 2 0 1_000_000_000_000_001
    ∷ p 0 0 1_000_000_000_000_001
    ∷ p 0 2_049 9
    ∷ p 0 100 1_000_000_000_000_001
    ∷ p 0 100 9
    ∷ p 0 100 10
    ∷ []
    ))
    (unmarked ∷ refused Refusal.Flow ∷ refused Refusal.Length ∷ refused Refusal.Length ∷ refused Refusal.Instant ∷ refused Refusal.BeforeClock ∷ unmarked ∷ [])
    -- a refused opening opens one flow with rate 1 and depth 1
    ∷ case (answers_to [] (p 0 1 0 ∷ p 0 1 999_999 ∷ p 0 1 1_000_000 ∷ p 1 1 1_000_000 ∷ [])) (unmarked ∷ marked ∷ unmarked ∷ refused Refusal.Flow ∷ [])
    ∷ []

-- Refusals of an opening: none, no flow, nine, 51 before 52, 52 before 53 though an earlier depth is out, and both ends of each range.
abbrev pub number : List Flow → ℕ
number ws = (opening ws).number

abbrev pub openings : List ℕ
openings =
    number (flow 1 1 ∷ [])
    ∷ number (replicate 8 (flow 10_000_000 65_535))
    ∷ number []
    ∷ number (replicate 9 (flow 0 0))
    ∷ number (flow 1 0 ∷ flow 0 1 ∷ [])
    ∷ number (flow 10_000_001 1 ∷ [])
    ∷ number (flow 1 1 ∷ flow 1 0 ∷ [])
    ∷ number (flow 1 65_536 ∷ [])
    ∷ []

-- A stretch in which the bound is reached: at one byte a tick and a depth of 100, 150 bytes in 50 ticks.
abbrev pub reached : List Told
reached = told (terms_of (flow 1_000_000 100 ∷ [])) (fresh (terms_of (flow 1_000_000 100 ∷ []))) (p 0 100 0 ∷ p 0 50 50 ∷ [])

-- THE STATEMENT.
abbrev pub got_of : Case → List Answer
got_of c = c.got

abbrev pub wanted_of : Case → List Answer
wanted_of c = c.wanted

pub record AllCases : Type 0 where
  pub calls : map got_of table ≡ map wanted_of table
  pub opened : openings ≡ 0 ∷ 0 ∷ 51 ∷ 51 ∷ 52 ∷ 52 ∷ 53 ∷ 53 ∷ []
  pub bound : million * unmarked_bytes (of_flow 0 reached) ≡ allowed (flow 1_000_000 100) (instants reached)
