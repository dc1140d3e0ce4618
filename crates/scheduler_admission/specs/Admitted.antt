-- What an admission makes of the scheduler's numbers. Assumes nothing.
use Rattle.std.specs.Prelude.{ℕ, ◌+◌, eqb}
use Rattle.units.specs.declared.Ticks.{Ticks}
use Rattle.units.specs.declared.Instant.{Instant}
use Rattle.units.specs.declared.Marking.{Marking}
use Rattle.units.specs.declared.Marking.TheVariants.{Unmarked, Marked}
use Rattle.scheduler_state.specs.declared.Extra.{Extra}
use Rattle.scheduler_state.specs.declared.Tallies.{Tallies}
use Rattle.scheduler_state.specs.declared.Scheduler.{Scheduler}
use Rattle.scheduler_state.specs.Counts.{waiting_of}
use Rattle.scheduler_state.specs.Parts.{scheduler, one_of}
use Rattle.scheduler_state.specs.Pick.{pick}

-- One more unmarked packet waits.
abbrev pub joined_of : Extra → (waiting : ℕ) → (time own : Ticks) → Extra
joined_of extra waiting time own =
    record {
      sum = record { 0 = extra.sum.0 + time.0 };
      first = pick (eqb waiting 0) own extra.first;
      last = own;
    }

-- What an admission adds to the tallies.
abbrev pub admitting : Marking → Tallies → Tallies
admitting μ t = record { admitted = one_of μ t.admitted; started = t.started; dropped = t.dropped }

-- Once an unmarked packet is admitted, with its transmission time and its own extra delay.
abbrev pub admitted_unmarked : Scheduler → (time own : Ticks) → (at : Instant) → Scheduler
admitted_unmarked s time own at =
    scheduler s.settings at s.line (joined_of s.extra (waiting_of Unmarked s.tallies) time own) (admitting Unmarked s.tallies)

-- Once a marked packet is admitted.
abbrev pub admitted_marked : Scheduler → (at : Instant) → Scheduler
admitted_marked s at = scheduler s.settings at s.line s.extra (admitting Marked s.tallies)
