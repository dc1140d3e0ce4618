-- Extra delays, from all waiting unmarked transmission times and the extra delay of the first and of the last unmarked packet. Assumes nothing.
use Rattle.std.specs.Prelude.{Bool, true, false, ◌&&◌, ◌||◌, not, ℕ, ◌+◌, ◌-◌, min, leb, ltb, eqb}
use Rattle.units.specs.declared.Ticks.{Ticks}
use Rattle.units.specs.declared.Instant.{Instant}
use Rattle.units.specs.declared.Settings.{Settings}
use Rattle.units.specs.declared.Marking.{Marking}
use Rattle.units.specs.declared.Marking.TheVariants.{Unmarked, Marked}
use Rattle.scheduler_state.specs.declared.Line.{Line}
use Rattle.scheduler_state.specs.declared.Extra.{Extra}
use Rattle.scheduler_state.specs.Pick.{pick}

-- The marking as a test.
abbrev pub is_unmarked : Marking → Bool
is_unmarked Unmarked = true
is_unmarked Marked = false

-- A new unmarked packet has a predecessor: an unmarked packet waits, or is on the line and ends after this instant.
abbrev pub follows_of : Line → (waiting : ℕ) → (at : Instant) → Bool
follows_of line waiting at = not (eqb waiting 0) || (is_unmarked line.last && ltb at.0 line.free.0)

-- U: the rest of the packet on the line plus all waiting unmarked transmission times.
abbrev pub ahead_of : Line → Extra → (at : Instant) → ℕ
ahead_of line extra at = line.free.0 - at.0 + extra.sum.0

-- The extra delay of a new unmarked packet: the smaller of its predecessor's and U, or U.
abbrev pub own_of : Line → Extra → (waiting : ℕ) → (at : Instant) → Ticks
own_of line extra waiting at =
    record { 0 = pick (follows_of line waiting at) (min extra.last.0 (ahead_of line extra at)) (ahead_of line extra at) }

-- The first waiting unmarked packet's extra delay plus this transmission time is at most alpha, or no unmarked packet waits.
abbrev pub fits_of : Settings → Extra → (waiting : ℕ) → (time : Ticks) → Bool
fits_of settings extra waiting time = eqb waiting 0 || leb (extra.first.0 + time.0) settings.alpha.0
