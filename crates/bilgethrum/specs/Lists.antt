-- Lists of calls by a C host on one line: from every opening, the answers are the rules'. Assumes nothing.
use Rattle.std.specs.Prelude.{◌≡◌, List, [], ◌∷◌, map, ℕ}
use Rattle.rules.specs.Terms.{Terms, terms_of}
use Rattle.rules.specs.Line.{fresh}
use Rattle.rules.specs.Step.{Call, advance, after, answers}
use Rattle.rules.specs.Printed.{numbers_of, tally_line}
use Rattle.rules.specs.Open as rules
use Rattle.room.specs.declared.Room.{Room}
use Rattle.room.specs.Held.{Sized}
use Rattle.scheduler.specs.Steps.{arrival_of}
use Rattle.bilgethrum_values.specs.declared.HostSettings.{HostSettings}
use Rattle.bilgethrum_values.specs.declared.HostPacket.{HostPacket}
use Rattle.bilgethrum_values.specs.declared.HostArrival.{HostArrival}
use Rattle.bilgethrum_values.specs.declared.HostDecision.{HostDecision}
use Rattle.bilgethrum_values.specs.declared.HostTallies.{HostTallies}
use Rattle.bilgethrum_values.specs.Host.{settings_from, packet_from, host_arrival, host_decision}
use Rattle.bilgethrum.specs.Promises.{keeping, opened, arrived, arrived_words, advanced, advanced_words, tallied}

-- A call on a line, with any numbers in it.
pub data HostCall : Type 0 where
  arrives : HostPacket → HostCall
  advances : (at : ℕ) → HostCall

-- The same as the rules' call.
abbrev pub host_call : HostCall → Call
host_call (arrives p) = arrival_of (packet_from p)
host_call (advances at) = advance at

-- The answer's five numbers, as the host reads them off its struct: refusal, packet number, start, extra delay, packets dropped.
abbrev pub arrival_read : HostArrival → List ℕ
arrival_read x = x.refusal ∷ x.number ∷ 0 ∷ x.extra ∷ 0 ∷ []

abbrev pub decision_read : HostDecision → List ℕ
decision_read x = x.refusal ∷ x.number ∷ x.start ∷ x.extra ∷ x.dropped ∷ []

abbrev pub answer_read : Room → HostCall → List ℕ
answer_read b (arrives p) = arrival_read (host_arrival (arrived b p).answer)
answer_read b (advances at) = decision_read (host_decision (advanced b at).answer)

-- The words after a call.
abbrev pub words_then : Room → HostCall → Room
words_then b (arrives p) = arrived_words b p
words_then b (advances at) = advanced_words b at

-- Over a list of calls: every answer, and the words at the end.
unfoldable pub answers_read : Room → List HostCall → List (List ℕ)
answers_read b [] = []
answers_read b (c ∷ cs) = answer_read b c ∷ answers_read (words_then b c) cs

unfoldable pub words_after : Room → List HostCall → Room
words_after b [] = b
words_after b (c ∷ cs) = words_after (words_then b c) cs

-- The tallies as the host reads them, behind the letter of their line.
abbrev pub tallies_read : HostTallies → List ℕ
tallies_read t =
    84 ∷ t.unmarked_admitted ∷ t.marked_admitted ∷ t.unmarked_started ∷ t.marked_started ∷ t.marked_dropped ∷ []

-- Alpha and the transmission time, as the opening put them in force.
abbrev pub in_force : HostSettings → Terms
in_force asked = terms_of (rules.opening (settings_from asked)).settings

-- THE THEOREM: on a line that was opened, whatever stood there, every list of calls is answered as the rules answer it, and the tallies are
-- the rules'.
pub record HostFaithful (asked : HostSettings) (before : Room) (cs : List HostCall) : Type 0 where
  pub given :
      answers_read (keeping (opened asked).scheduler before) cs ≡ map numbers_of (answers (in_force asked) fresh (map host_call cs))
  pub tallies :
      tallies_read (tallied (words_after (keeping (opened asked).scheduler before) cs))
      ≡ tally_line (after (in_force asked) fresh (map host_call cs)).tallies

abbrev pub AllHostFaithful : Type 0
AllHostFaithful = (asked : HostSettings) (before : Room) → Sized before → (cs : List HostCall) → HostFaithful asked before cs
