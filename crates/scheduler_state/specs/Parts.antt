-- A scheduler by its parts: as it is opened, and once the clock has moved on. Assumes nothing.
use Rattle.std.specs.Prelude.{◌+◌}
use Rattle.units.specs.declared.Instant.{Instant}
use Rattle.units.specs.declared.Settings.{Settings}
use Rattle.units.specs.declared.Marking.{Marking}
use Rattle.units.specs.declared.Marking.TheVariants.{Unmarked, Marked}
use Rattle.scheduler_state.specs.declared.Line.{Line}
use Rattle.scheduler_state.specs.declared.Extra.{Extra}
use Rattle.scheduler_state.specs.declared.Each.{Each}
use Rattle.scheduler_state.specs.declared.Tallies.{Tallies}
use Rattle.scheduler_state.specs.declared.Scheduler.{Scheduler}

-- A scheduler by its parts.
abbrev pub scheduler : Settings → (clock : Instant) → Line → Extra → Tallies → Scheduler
scheduler settings clock line extra tallies =
    record { settings = settings; clock = clock; line = line; extra = extra; tallies = tallies }

-- None of either marking.
abbrev pub none_of : Each
none_of = record { unmarked = 0; marked = 0 }

-- One more of a marking.
abbrev pub one_of : Marking → Each → Each
one_of Unmarked e = record { unmarked = e.unmarked + 1; marked = e.marked }
one_of Marked e = record { unmarked = e.unmarked; marked = e.marked + 1 }

-- A scheduler on which nothing has happened: the clock starts at 0, a fresh line is free at 0, and nothing was admitted.
abbrev pub fresh_of : Settings → Scheduler
fresh_of settings =
    scheduler settings (record { 0 = 0 }) (record { free = record { 0 = 0 }; last = Marked })
    (record { sum = record { 0 = 0 }; first = record { 0 = 0 }; last = record { 0 = 0 } })
    (record { admitted = none_of; started = none_of; dropped = 0 })

-- Once the clock has moved on and nothing was due.
abbrev pub idle_at : Scheduler → (at : Instant) → Scheduler
idle_at s at = scheduler s.settings at s.line s.extra s.tallies
