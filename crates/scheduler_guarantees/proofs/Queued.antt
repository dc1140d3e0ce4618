-- The difference queue holds each waiting unmarked packet's number and its predecessor's extra delay minus its own. Assumes nothing.
use mathlib.Core.Path.{◌≡◌, ap, ◌∙◌}
use mathlib.Core.List.{List, [], ◌∷◌, ◌++◌, map}
use Prim.Native.Nat.{ℕ, suc, ◌+◌}
use native.Mathlib.Omega.{arith}
use lib.ListN.{length}
use Rattle.rules.specs.Terms.{Terms}
use Rattle.rules.specs.Line.{Packet, Waiting, unmarked, marked, Line, fresh, unmarked_of}
use Rattle.rules.specs.Delay.{gap}
use Rattle.rules.specs.Step.{after}
use Rattle.rules.proofs.Lists.{unmarked-append, unmarked-behind}
use Rattle.rules.proofs.Difference.{differences}
use Rattle.room.specs.Room.{number_at, difference_at}
use Rattle.room.specs.Held.{Held}
use Rattle.scheduler.specs.Represents.{number_of, gaps_from, gaps}
use Rattle.scheduler.proofs.Follows.{all-faithful}
use Rattle.scheduler_guarantees.specs.Demands.{in_force, scheduler_by, room_by}
use Rattle.scheduler_guarantees.specs.Queue.{QueueHolds}

-- What stands at the packet w that follows v, from the first waiting one's place k.
number-there : (f : ℕ → ℕ) (k : ℕ) (a b : List Packet) (v w : Packet) → Held f k (map number_of (a ++ v ∷ w ∷ b)) → f (k + (length a + 1)) ≡ w.number
number-there f k [] b v w h = let z : k + (0 + 1) ≡ suc k = omega arith in rw z h.1.0
number-there f k (x ∷ a) b v w h =
    let z : k + (suc (length a) + 1) ≡ suc k + (length a + 1) = omega arith in
    rw z (number-there f (suc k) a b v w h.1)

module _ (σ : Terms) (f : ℕ → ℕ) where
  gap_from : (k : ℕ) (x : Packet) (a b : List Packet) (v w : Packet) → Held f k (gaps_from σ x (a ++ v ∷ w ∷ b)) → f (k + (length a + 1)) ≡ gap σ v w
  gap_from k x [] b v w h = let z : k + (0 + 1) ≡ suc k = omega arith in rw z h.1.0
  gap_from k x (y ∷ a) b v w h =
      let z : k + (suc (length a) + 1) ≡ suc k + (length a + 1) = omega arith in
      rw z (gap_from (suc k) y a b v w h.1)

  gap-there : (k : ℕ) (a b : List Packet) (v w : Packet) → Held f (suc k) (gaps σ (a ++ v ∷ w ∷ b)) → f (k + (length a + 1)) ≡ gap σ v w
  gap-there k [] b v w h = let z : k + (0 + 1) ≡ suc k = omega arith in rw z h.0
  gap-there k (x ∷ a) b v w h =
      let z : k + (suc (length a) + 1) ≡ suc k + (length a + 1) = omega arith in
      rw z (gap_from (suc k) x a b v w h)

pub queue-holds : QueueHolds
queue-holds settings lent z cs ahead v between w f =
    let σ : Terms = in_force settings in
    let line : Line = after σ fresh cs in
    let rep = (all-faithful settings lent z cs).represents in
    let behind : List Waiting = f.0 in
    let split : unmarked_of line.queue ≡ unmarked_of ahead ++ v ∷ w ∷ unmarked_of behind =
    ap unmarked_of f.1
    ∙ (unmarked-append ahead (unmarked v ∷ (map marked between ++ unmarked w ∷ behind))
    ∙ ap (λ (l : List Packet). unmarked_of ahead ++ v ∷ l) (unmarked-behind between (unmarked w ∷ behind))) in
    let k : ℕ = (scheduler_by settings lent cs).tallies.started.unmarked in
    let number =
    number-there (number_at (room_by settings lent cs)) k (unmarked_of ahead) (unmarked_of behind) v w (rw split at rep.numbers) in
    let stored =
    gap-there σ (difference_at (room_by settings lent cs)) k (unmarked_of ahead) (unmarked_of behind) v w (rw split at rep.differences) in
    let fixed = (differences σ cs ahead v between w f).1 in
    (number, omega arith)
