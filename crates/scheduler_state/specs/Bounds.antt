-- How large the scheduler's numbers are, so that no sum wraps. Assumes nothing.
use Rattle.std.specs.Prelude.{ℕ, ◌+◌, ◌*◌, ◌≤◌}
use Rattle.units.specs.Limits.{alpha_most, instant_most, waiting_most}
use Rattle.rules.specs.Opened.{time_most}
use Rattle.scheduler_state.specs.declared.Scheduler.{Scheduler}
use Rattle.scheduler_state.specs.Counts.{Counted}

-- All waiting unmarked transmission times together are no more than this, and neither is any single one.
abbrev pub times_most : ℕ
times_most = waiting_most * time_most

-- What every sum on the way relies on.
pub record Small (s : Scheduler) : Type 0 where
  pub counted : Counted s.tallies
  pub free : s.line.free.0 ≤ instant_most + times_most
  pub sum : s.extra.sum.0 ≤ times_most
  pub first : s.extra.first.0 ≤ alpha_most
  pub last : s.extra.last.0 ≤ alpha_most
