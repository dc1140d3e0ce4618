-- What a start makes of the scheduler's numbers. Assumes nothing.
use Rattle.std.specs.Prelude.{ℕ, ◌+◌, ◌-◌, leb, eqb}
use Rattle.units.specs.declared.Ticks.{Ticks}
use Rattle.units.specs.declared.Instant.{Instant}
use Rattle.units.specs.declared.Marking.{Marking}
use Rattle.units.specs.declared.Marking.TheVariants.{Unmarked, Marked}
use Rattle.scheduler_state.specs.declared.Line.{Line}
use Rattle.scheduler_state.specs.declared.Extra.{Extra}
use Rattle.scheduler_state.specs.declared.Tallies.{Tallies}
use Rattle.scheduler_state.specs.declared.Scheduler.{Scheduler}
use Rattle.scheduler_state.specs.Counts.{waiting_of}
use Rattle.scheduler_state.specs.Parts.{scheduler, one_of}
use Rattle.scheduler_state.specs.Pick.{pick}

-- A marked packet started: every waiting unmarked packet is that much later.
abbrev pub delayed_of : Extra → (waiting : ℕ) → (time : Ticks) → Extra
delayed_of extra waiting time =
    pick (eqb waiting 0) extra
    (record { sum = extra.sum; first = record { 0 = extra.first.0 + time.0 }; last = record { 0 = extra.last.0 + time.0 } })

-- The first of the waiting unmarked packets started; `difference` is how much less the next one's extra delay is.
abbrev pub passed_of : Extra → (waiting : ℕ) → (time difference : Ticks) → Extra
passed_of extra waiting time difference =
    record {
      sum = record { 0 = extra.sum.0 - time.0 };
      first = pick (leb waiting 1) extra.first (record { 0 = extra.first.0 - difference.0 });
      last = extra.last;
    }

-- What a marked start, and an unmarked start with its drops, add to the tallies.
abbrev pub starting_marked : Tallies → Tallies
starting_marked t = record { admitted = t.admitted; started = one_of Marked t.started; dropped = t.dropped }

abbrev pub starting_unmarked : (dropped : ℕ) → Tallies → Tallies
starting_unmarked n t = record { admitted = t.admitted; started = one_of Unmarked t.started; dropped = t.dropped + n }

-- The line, with a packet of this marking on it from the due instant.
abbrev pub line_of : Marking → (due : Instant) → (time : Ticks) → Line
line_of μ due time = record { free = record { 0 = due.0 + time.0 }; last = μ }

-- Once a marked packet has started at the due instant, with the clock at `at`.
abbrev pub started_marked : Scheduler → (due : Instant) → (time : Ticks) → (at : Instant) → Scheduler
started_marked s due time at =
    scheduler s.settings at (line_of Marked due time) (delayed_of s.extra (waiting_of Unmarked s.tallies) time)
    (starting_marked s.tallies)

-- Once the first waiting unmarked packet has started and those ahead of it were dropped.
abbrev pub started_unmarked : Scheduler → (due : Instant) → (time difference : Ticks) → (dropped : ℕ) → (at : Instant) → Scheduler
started_unmarked s due time difference dropped at =
    scheduler s.settings at (line_of Unmarked due time) (passed_of s.extra (waiting_of Unmarked s.tallies) time difference)
    (starting_unmarked dropped s.tallies)
