-- The promises of the calls for C hosts, through the definitions of the calls below them. A line is a room, the words that a host lends. Assumes nothing.
use Rattle.std.specs.Prelude.{◌≡◌, List, ℕ, eqb, length, Result}
use Rattle.std.proofs.Math.Option.{none}
use Rattle.refusals.specs.declared.Refusal.{Refusal}
use Rattle.refusals.specs.First.{first_refusal}
use Rattle.rules.specs.Terms.{terms_of}
use Rattle.rules.specs.Step.{advance}
use Rattle.rules.specs.Open as rules
use Rattle.room.specs.declared.Room.{Room}
use Rattle.room.specs.Room.{with_kept}
use Rattle.room.specs.Held.{Sized}
use Rattle.scheduler_state.specs.declared.Scheduler.{Scheduler}
use Rattle.scheduler_state.specs.Pick.{pick}
use Rattle.scheduler_answers.specs.Answers.{Opened}
use Rattle.scheduler_answers.specs.Answers.{Arrived}
use Rattle.scheduler_answers.specs.Answers.{Advanced}
use Rattle.scheduler_answers.specs.Values.{opening_number, admission_values, admission_numbers, advance_values, advance_numbers, handed}
use Rattle.scheduler.specs.Calls.{open_of, arrive_of, arrive_room, advance_of}
use Rattle.scheduler.specs.Machine.{FromOpening, terms_by, line_by}
use Rattle.scheduler.specs.Steps.{arrival_of, Steps}
use Rattle.scheduler_kept.specs.Words.{scheduler_words, scheduler_in}
use Rattle.block_columns.specs.Columns.{Columns}
use Rattle.block_reader.specs.Read.{read_of, Reads}
use Rattle.block_writer.specs.Writable.{write_tests}
use Rattle.block_writer.specs.Write.{answer_of, Writes}
use Rattle.bilgethrum_values.specs.declared.HostSettings.{HostSettings}
use Rattle.bilgethrum_values.specs.declared.HostPacket.{HostPacket}
use Rattle.bilgethrum_values.specs.declared.HostArrival.{HostArrival}
use Rattle.bilgethrum_values.specs.declared.HostDecision.{HostDecision}
use Rattle.bilgethrum_values.specs.declared.HostTallies.{HostTallies}
use Rattle.bilgethrum_values.specs.declared.HostReading.{HostReading}
use Rattle.bilgethrum_values.specs.declared.HostWriting.{HostWriting}
use Rattle.bilgethrum_values.specs.Host.{settings_from, packet_from, host_arrival, host_decision, host_tallies, host_reading, host_writing}

-- THE PREMISE of a call on a line: the scheduler that is kept in its words and the room that they are come from an opening and calls on them.
abbrev pub OnLine : Room → Type 0
OnLine b = FromOpening (scheduler_in b) b

-- The words with this scheduler kept in them.
abbrev pub keeping : Scheduler → Room → Room
keeping s b = with_kept b 0 (scheduler_words s)

-- One room where a call's refusal number is 0, the other where it is refused.
abbrev pub if_accepted : (refusal : ℕ) → Room → Room → Room
if_accepted n accepted refused = pick (eqb n 0) accepted refused

-- OPEN: what the scheduler's opening gives is kept, whatever stood there.
abbrev pub opened : HostSettings → Opened
opened asked = open_of (settings_from asked)

pub record HostOpens (asked : HostSettings) (before : Room) (n : ℕ) (left : Room) : Type 0 where
  pub value : n ≡ opening_number (opened asked).answer
  pub words : left ≡ keeping (opened asked).scheduler before
  -- by the rules: the number, and a line that stands for the fresh line under the settings in force
  pub number : n ≡ (rules.opening (settings_from asked)).number
  pub kept : Sized before → OnLine left
  pub terms : (z : Sized before) → terms_by (kept z) ≡ terms_of (rules.opening (settings_from asked)).settings
  pub stands : (z : Sized before) → line_by (kept z) ≡ (rules.opening (settings_from asked)).line

-- ARRIVE: what the scheduler's arrival gives, on the scheduler that is kept there.
abbrev pub arrived : Room → HostPacket → Arrived
arrived b p = arrive_of (scheduler_in b) b (packet_from p)

-- The words then: the room and the scheduler that the arrival leaves, or as they were where it is refused.
abbrev pub arrived_words : Room → HostPacket → Room
arrived_words b p =
    if_accepted (host_arrival (arrived b p).answer).refusal (keeping (arrived b p).scheduler (arrive_room (scheduler_in b) b (packet_from p))) b

pub record HostArrives (b : Room) (p : HostPacket) (x : HostArrival) (left : Room) : Type 0 where
  pub value : x ≡ host_arrival (arrived b p).answer
  pub words : left ≡ arrived_words b p
  pub kept : OnLine left
  -- by the rules, on the line that the words stand for
  pub steps :
      (o : OnLine b)
      → Steps o (arrival_of (packet_from p)) (admission_values (arrived b p).answer) (admission_numbers (arrived b p).answer) none (scheduler_in left) left

-- ADVANCE: what the scheduler's advance gives, on the scheduler that is kept there.
abbrev pub advanced : Room → (at : ℕ) → Advanced
advanced b at = advance_of (scheduler_in b) b (record { 0 = at })

-- The words then: with the scheduler that the advance leaves, or as they were where it is refused.
abbrev pub advanced_words : Room → (at : ℕ) → Room
advanced_words b at = if_accepted (host_decision (advanced b at).answer).refusal (keeping (advanced b at).scheduler b) b

pub record HostAdvances (b : Room) (at : ℕ) (x : HostDecision) (left : Room) : Type 0 where
  pub value : x ≡ host_decision (advanced b at).answer
  pub words : left ≡ advanced_words b at
  pub kept : OnLine left
  pub steps :
      (o : OnLine b)
      → Steps o (advance at) (advance_values (advanced b at).answer) (advance_numbers (advanced b at).answer) (handed (advanced b at).answer)
      (scheduler_in left) left

-- TALLY: the five tallies of the scheduler that is kept there.
abbrev pub tallied : Room → HostTallies
tallied b = host_tallies (scheduler_in b).tallies

-- READ: what the reader gives, and its columns.
pub record HostReads (image : List ℕ) (before : Columns) (x : HostReading) (after : Columns) : Type 0 where
  pub value : x ≡ host_reading (read_of image before)
  pub columns : Reads image before (read_of image before) after

-- WRITE: what the writer gives, and its image.
abbrev pub written : HostSettings → Columns → (room : ℕ) → Result ℕ Refusal
written asked c room = answer_of (first_refusal (write_tests (settings_from asked) c room)) (length c.kinds)

pub record HostWrites (asked : HostSettings) (c : Columns) (before : List ℕ) (x : HostWriting) (after : List ℕ) : Type 0 where
  pub value : x ≡ host_writing (written asked c (length before))
  pub image : Writes (settings_from asked) c before (written asked c (length before)) after
