-- DEMAND 3 OF THE CODE, for every opening, every lent room and every list of calls. Assumes nothing.
use Rattle.std.specs.Prelude.{◌≡◌, ◌↔◌, ℕ, suc, ◌+◌, ◌-◌, ◌≤◌, ◌<◌, length, take}
use mathlib.Core.List.{List, [], ◌∷◌, map, Memᴰ}
use Rattle.units.specs.declared.Settings.{Settings}
use Rattle.units.specs.declared.Marking.TheVariants.{Unmarked}
use Rattle.rules.specs.Terms.{Terms, terms_of}
use Rattle.rules.specs.Line.{Packet, Waiting, marked, fresh, due}
use Rattle.rules.specs.Extra.{span}
use Rattle.rules.specs.Step.{Call, arrive, advance, after}
use Rattle.rules.specs.History.{unmarked_alone, OnReference, reference_line}
use Rattle.rules.specs.Demand.{NonePasses}
use Rattle.rules.specs.Open as rules
use Rattle.room.specs.declared.Room.{Room}
use Rattle.room.specs.Held.{Sized}
use Rattle.scheduler_state.specs.declared.Scheduler.{Scheduler}
use Rattle.scheduler.specs.Calls.{open_of}
use Rattle.scheduler.specs.Machine.{made, scheduler_after, room_after, values_by}
use Rattle.scheduler_guarantees.specs.Lines.{Begun, begun_in, admissions_in, gone_in, admitted_in}

-- Alpha and the transmission time, as the opening put them in force.
abbrev pub in_force : Settings → Terms
in_force settings = terms_of (rules.opening settings).settings

-- The code after these calls, and the lines of its answers.
abbrev pub scheduler_by : Settings → Room → List Call → Scheduler
scheduler_by settings lent cs = scheduler_after (open_of settings).scheduler lent cs

abbrev pub room_by : Settings → Room → List Call → Room
room_by settings lent cs = room_after (open_of settings).scheduler lent cs

abbrev pub lines_by : Settings → Room → List Call → List (List ℕ)
lines_by settings lent cs = values_by (open_of settings).scheduler lent cs

-- The reference line of the admitted unmarked packets, read off the calls and the lines.
abbrev pub reference_by : Settings → Room → List Call → List OnReference
reference_by settings lent cs = reference_line (in_force settings) 0 (unmarked_alone (admitted_in 1 cs (lines_by settings lent cs)))

-- (a) Each admitted unmarked packet that starts does so no earlier than on the reference line and at most alpha later.
abbrev pub OnTime : Type 0
OnTime =
    (settings : Settings) (lent : Room)
    → Sized lent
    → (cs : List Call) (r : OnReference) (x : Begun)
    → Memᴰ r (reference_by settings lent cs)
    → Memᴰ x (begun_in (lines_by settings lent cs))
    → x.number ≡ r.number
    → (r.start ≤ x.at) × (x.at ≤ r.start + (in_force settings).alpha)

-- How many packets wait, read off the lines.
abbrev pub waiting_in : List (List ℕ) → ℕ
waiting_in ls = admissions_in ls - gone_in ls

-- The numbers of the first n starts.
abbrev pub number_of : Begun → ℕ
number_of x = x.number

abbrev pub first_starts : (n : ℕ) → List (List ℕ) → List ℕ
first_starts n ls = map number_of (take n (begun_in ls))

-- (b) An unmarked packet that is admitted with p waiting ahead of it starts at the latest with the (p + 1)th start from then on.
abbrev pub InTurn : Type 0
InTurn =
    (settings : Settings) (lent : Room)
    → Sized lent
    → (cs : List Call) (len place t n e : ℕ) (then : List Call)
    → (made (scheduler_by settings lent cs) (room_by settings lent cs) (arrive Unmarked len place t)).values ≡ 65 ∷ n ∷ e ∷ []
    → waiting_in (lines_by settings lent cs)
    < length
    (begun_in
    (values_by (made (scheduler_by settings lent cs) (room_by settings lent cs) (arrive Unmarked len place t)).scheduler
    (made (scheduler_by settings lent cs) (room_by settings lent cs) (arrive Unmarked len place t)).room then))
    → Memᴰ n
    (first_starts (suc (waiting_in (lines_by settings lent cs)))
    (values_by (made (scheduler_by settings lent cs) (room_by settings lent cs) (arrive Unmarked len place t)).scheduler
    (made (scheduler_by settings lent cs) (room_by settings lent cs) (arrive Unmarked len place t)).room then))

-- (c) A marked packet m at the head when a decision is taken is the one that starts exactly if no waiting unmarked packet would thereby pass
-- alpha. What waits is the rules' queue, which scheduler and room stand for.
abbrev pub SentIfBearable : Type 0
SentIfBearable =
    (settings : Settings) (lent : Room)
    → Sized lent
    → (cs : List Call) (t : ℕ) (q : List Waiting) (m : Packet) (n at e k : ℕ)
    → (after (in_force settings) fresh cs).queue ≡ marked m ∷ q
    → (made (scheduler_by settings lent cs) (room_by settings lent cs) (advance t)).values ≡ 83 ∷ n ∷ at ∷ e ∷ k ∷ []
    → (n ≡ m.number) ↔ NonePasses (in_force settings) (due (after (in_force settings) fresh cs)) q (span (in_force settings) m)
