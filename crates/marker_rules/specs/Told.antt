-- What calls and answers tell by themselves: nothing here reads a bucket. Assumes nothing.
use Rattle.std.specs.Prelude.{Bool, true, false, List, [], ◌∷◌, map, ℕ, ◌+◌, ◌-◌, ◌≤◌, eqb}
use Rattle.marker_rules.specs.Terms.{Terms}
use Rattle.marker_rules.specs.Step.{Call, Answer, unmarked, marked, refused, Marker, step}

-- A call with its answer.
pub record Told : Type 0 where
  pub call : Call
  pub answer : Answer

-- The calls with their answers, from a marker on.
unfoldable pub told : Terms → Marker → List Call → List Told
told σ s [] = []
told σ s (c ∷ cs) = record { call = c; answer = (step σ s c).answer } ∷ told σ (step σ s c).marker cs

-- An accepted call has an instant, a refused one has none.
abbrev pub add_instant : Call → Answer → List ℕ → List ℕ
add_instant c unmarked ts = c.at ∷ ts
add_instant c marked ts = c.at ∷ ts
add_instant c (refused r) ts = ts

-- The instants of the accepted calls, of all flows.
abbrev pub instants : List Told → List ℕ
instants [] = []
instants (h ∷ hs) = add_instant h.call h.answer (instants hs)

-- Where the clock stands after a call, t before it.
abbrev pub clock_then : (t : ℕ) → Call → Answer → ℕ
clock_then t c unmarked = c.at
clock_then t c marked = c.at
clock_then t c (refused r) = t

-- The instants of the accepted calls never go back, from t on.
abbrev pub Onward : (t : ℕ) → List Told → Type 0
Onward t [] = Unit {0}
Onward t (h ∷ hs) = (t ≤ clock_then t h.call h.answer) × Onward (clock_then t h.call h.answer) hs

-- The last of some instants, t if there are none.
abbrev pub last_of : (t : ℕ) → List ℕ → ℕ
last_of t [] = t
last_of t (u ∷ us) = last_of u us

-- The last minus the first.
abbrev pub span_of : List ℕ → ℕ
span_of [] = 0
span_of (t ∷ ts) = last_of t ts - t

-- A packet that was accepted, and whether it was left unmarked.
pub record Passed : Type 0 where
  pub len : ℕ
  pub at : ℕ
  pub unmarked : Bool

abbrev pub passed : Call → Bool → Passed
passed c b = record { len = c.len; at = c.at; unmarked = b }

-- A packet more, if it counts.
abbrev pub add_if : Bool → Passed → List Passed → List Passed
add_if true p ps = p ∷ ps
add_if false p ps = ps

-- A call adds its packet to flow f's if it is of that flow and was accepted.
abbrev pub add_own : (f : ℕ) → Call → Answer → List Passed → List Passed
add_own f c unmarked ps = add_if (eqb c.flow f) (passed c true) ps
add_own f c marked ps = add_if (eqb c.flow f) (passed c false) ps
add_own f c (refused r) ps = ps

-- The accepted packets of flow f.
abbrev pub of_flow : (f : ℕ) → List Told → List Passed
of_flow f [] = []
of_flow f (h ∷ hs) = add_own f h.call h.answer (of_flow f hs)

-- A number that counts only if this holds.
abbrev pub only_if : Bool → ℕ → ℕ
only_if true n = n
only_if false n = 0

-- The bytes of those that were left unmarked.
abbrev pub unmarked_bytes : List Passed → ℕ
unmarked_bytes [] = 0
unmarked_bytes (p ∷ ps) = only_if p.unmarked p.len + unmarked_bytes ps

-- The instants of these packets.
abbrev pub instant_of : Passed → ℕ
instant_of p = p.at

abbrev pub instants_of : List Passed → List ℕ
instants_of ps = map instant_of ps
