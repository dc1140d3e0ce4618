-- A packet at the door and its answer; lists of packets. Assumes nothing.
use Rattle.std.specs.Prelude.{Bool, true, false, not, List, [], ◌∷◌, map, ℕ, leb, ltb, length, get_or, set}
use Rattle.std.proofs.Math.Option.{Option, none, some}
use Rattle.refusals.specs.declared.Refusal.{Refusal}
use Rattle.refusals.specs.First.{Test, first_refusal}
use Rattle.units.specs.Limits.{in_range}
use Rattle.marker_flows.specs.Flows.{no_flow}
use Rattle.marker_rules.specs.Terms.{Terms, flow_at}
use Rattle.marker_rules.specs.Bucket.{Bucket, full, holds, bucket_then}

-- A call: a packet of a flow, so many bytes long, at an instant.
pub record Call : Type 0 where
  pub flow : ℕ
  pub len : ℕ
  pub at : ℕ

pub data Answer : Type 0 where
  unmarked : Answer
  marked : Answer
  refused : Refusal → Answer

-- The marker between two calls.
pub record Marker : Type 0 where
  -- the instant of the last accepted call, of any flow
  pub clock : ℕ
  -- a bucket for each flow
  pub buckets : List Bucket

pub record Outcome : Type 0 where
  pub marker : Marker
  pub answer : Answer

-- Flow f's bucket.
abbrev pub bucket_at : Marker → (f : ℕ) → Bucket
bucket_at s f = get_or s.buckets f (full no_flow)

-- Every refusal changes no state.
abbrev pub refusal : Marker → Refusal → Outcome
refusal s r = record { marker = s; answer = refused r }

-- Refusals of a packet where so many flows were opened: 51 a flow that was not, then 1, 2 and 3 as in document 01, with one clock for all flows.
abbrev pub packet_tests : (flows longest latest clock : ℕ) → Call → List Test
packet_tests flows longest latest clock c =
    record { refusal = Refusal.Flow; holds = leb flows c.flow }
    ∷ record { refusal = Refusal.Length; holds = not (in_range 1 longest c.len) }
    ∷ record { refusal = Refusal.Instant; holds = ltb latest c.at }
    ∷ record { refusal = Refusal.BeforeClock; holds = ltb c.at clock }
    ∷ []

-- The answer to a packet whose whole length its bucket holds, or not.
abbrev pub answer_by : Bool → Answer
answer_by true = unmarked
answer_by false = marked

module _ (σ : Terms) where
  -- Every bucket is full at opening, and the clock starts at 0.
  abbrev pub fresh : Marker
  fresh = record { clock = 0; buckets = map full σ.flows }

  abbrev pub tests_of : Marker → Call → List Test
  tests_of s c = packet_tests (length σ.flows) σ.longest σ.latest s.clock c

  -- The clock takes the instant of an accepted call, and the packet comes to its own flow's bucket.
  abbrev pub accepted : Marker → Call → Outcome
  accepted s c =
      record {
        marker =
            record {
              clock = c.at;
              buckets = set s.buckets c.flow (bucket_then (flow_at σ c.flow) (bucket_at s c.flow) c.len c.at);
            };
        answer = answer_by (holds (flow_at σ c.flow) (bucket_at s c.flow) c.len c.at);
      }

  abbrev pub answering : Option Refusal → Marker → Call → Outcome
  answering (some r) s c = refusal s r
  answering none s c = accepted s c

  -- One call.
  unfoldable pub step : Marker → Call → Outcome
  step s c = answering (first_refusal (tests_of s c)) s c

  -- The marker after a list of calls.
  unfoldable pub after : Marker → List Call → Marker
  after s [] = s
  after s (c ∷ cs) = after (step s c).marker cs
