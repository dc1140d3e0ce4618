-- Lists of calls on the code: a scheduler with its room, and what each call gives. Assumes nothing.
use Rattle.std.specs.Prelude.{◌≡◌, List, [], ◌∷◌, ℕ}
use Rattle.std.proofs.Math.Option.{Option, none}
use Rattle.units.specs.declared.Bytes.{Bytes}
use Rattle.units.specs.declared.Instant.{Instant}
use Rattle.units.specs.declared.Settings.{Settings}
use Rattle.rules.specs.Terms.{Terms, terms_of}
use Rattle.rules.specs.Line.{Line, fresh}
use Rattle.rules.specs.Step.{Call, arrive, advance, after}
use Rattle.rules.specs.Open as rules
use Rattle.room.specs.declared.Packet.{Packet}
use Rattle.room.specs.declared.Room.{Room}
use Rattle.room.specs.Held.{Sized}
use Rattle.scheduler_state.specs.declared.Scheduler.{Scheduler}
use Rattle.scheduler.specs.Calls.{open_of, arrive_of, arrive_room, advance_of}
use Rattle.scheduler_answers.specs.Packets.{packet_of}
use Rattle.scheduler_answers.specs.Values.{admission_values, advance_values, handed}

-- What a call of the code makes: the scheduler, the room, the answer's values and the packet handed back.
pub record Made : Type 0 where
  pub scheduler : Scheduler
  pub room : Room
  pub values : List ℕ
  pub packet : Option Packet

-- A call's numbers as the code has them.
abbrev pub bytes : ℕ → Bytes
bytes n = record { 0 = n }

abbrev pub instant : ℕ → Instant
instant n = record { 0 = n }

-- One call, by its definition in Calls.
abbrev pub made : Scheduler → Room → Call → Made
made s r (arrive μ len place t) =
    record {
      scheduler = (arrive_of s r (packet_of μ (bytes len) place (instant t))).scheduler;
      room = arrive_room s r (packet_of μ (bytes len) place (instant t));
      values = admission_values (arrive_of s r (packet_of μ (bytes len) place (instant t))).answer;
      packet = none;
    }
made s r (advance t) =
    record {
      scheduler = (advance_of s r (instant t)).scheduler;
      room = r;
      values = advance_values (advance_of s r (instant t)).answer;
      packet = handed (advance_of s r (instant t)).answer;
    }

-- The scheduler and the room after a list of calls, and the values of the answers.
unfoldable pub scheduler_after : Scheduler → Room → List Call → Scheduler
scheduler_after s r [] = s
scheduler_after s r (c ∷ cs) = scheduler_after (made s r c).scheduler (made s r c).room cs

unfoldable pub room_after : Scheduler → Room → List Call → Room
room_after s r [] = r
room_after s r (c ∷ cs) = room_after (made s r c).scheduler (made s r c).room cs

unfoldable pub values_by : Scheduler → Room → List Call → List (List ℕ)
values_by s r [] = []
values_by s r (c ∷ cs) = (made s r c).values ∷ values_by (made s r c).scheduler (made s r c).room cs

unfoldable pub packets_by : Scheduler → Room → List Call → List (Option Packet)
packets_by s r [] = []
packets_by s r (c ∷ cs) = (made s r c).packet ∷ packets_by (made s r c).scheduler (made s r c).room cs

-- THE PREMISE of a call: this scheduler and room come from an opening, with a room of the lent length, and calls on them.
pub record FromOpening (s : Scheduler) (r : Room) : Type 0 where
  pub settings : Settings
  pub lent : Room
  pub calls : List Call
  pub sized : Sized lent
  pub scheduler : s ≡ scheduler_after (open_of settings).scheduler lent calls
  pub room : r ≡ room_after (open_of settings).scheduler lent calls

-- WHAT THEY STAND FOR: the line of the rules after the same opening and the same calls, under the terms of the settings in force.
abbrev pub terms_by : {s : Scheduler} {r : Room} → FromOpening s r → Terms
terms_by o = terms_of (rules.opening o.settings).settings

abbrev pub line_by : {s : Scheduler} {r : Room} → FromOpening s r → Line
line_by o = after (terms_by o) fresh o.calls

-- Another scheduler and room that come from an opening, and stand for the same line.
pub record Alike {s : Scheduler} {r : Room} (o : FromOpening s r) (s' : Scheduler) (r' : Room) : Type 0 where
  pub next : FromOpening s' r'
  pub terms : terms_by next ≡ terms_by o
  pub stands : line_by next ≡ line_by o
