-- One call by the rules: what a promise says of the line that scheduler and room stand for. Assumes nothing.
use Rattle.std.specs.Prelude.{◌≡◌, List, ℕ}
use Rattle.std.proofs.Math.Option.{Option}
use Rattle.rules.specs.Step.{Call, Outcome, arrive, step}
use Rattle.rules.specs.Printed.{line_of, numbers_of}
use Rattle.room.specs.declared.Packet.{Packet}
use Rattle.room.specs.declared.Room.{Room}
use Rattle.scheduler_state.specs.declared.Scheduler.{Scheduler}
use Rattle.scheduler.specs.Machine.{FromOpening, terms_by, line_by}
use Rattle.scheduler.specs.Represents.{started_packet}

-- An arriving packet as the rules' call.
abbrev pub arrival_of : Packet → Call
arrival_of p = arrive p.marking p.length.0 p.place p.arrival.0

-- The rules' step for this call, on the line that scheduler and room stand for.
abbrev pub step_by : {s : Scheduler} {r : Room} → FromOpening s r → Call → Outcome
step_by o c = step (terms_by o) (line_by o) c

-- The answer, as its printed line and as its numbers, is the rules'; a start hands back the packet that starts there; and what is left comes
-- from an opening too, under the same terms, and stands for the rules' next line.
pub record Steps {s : Scheduler} {r : Room} (o : FromOpening s r) (c : Call) (printed given : List ℕ) (handed : Option Packet) (s' : Scheduler)
    (r' : Room) : Type 0 where
  pub line : printed ≡ line_of (step_by o c).answer
  pub numbers : given ≡ numbers_of (step_by o c).answer
  pub packet : handed ≡ started_packet (step_by o c).answer
  pub next : FromOpening s' r'
  pub terms : terms_by next ≡ terms_by o
  pub stands : line_by next ≡ (step_by o c).line
