-- A scheduler as 19 words kept in the room, and back. Assumes nothing.
use Rattle.std.specs.Prelude.{List, [], ◌∷◌, ◌++◌, ℕ, ◌+◌, ◌%◌}
use Rattle.units.specs.declared.Instant.{Instant}
use Rattle.units.specs.declared.Settings.{Settings}
use Rattle.units.specs.Codes.{code_of, marking_of}
use Rattle.room.specs.Words.{low_of, high_of, joined_of}
use Rattle.room.specs.declared.Room.{Room}
use Rattle.room.specs.Room.{kept_at}
use Rattle.scheduler_state.specs.declared.Line.{Line}
use Rattle.scheduler_state.specs.declared.Extra.{Extra}
use Rattle.scheduler_state.specs.declared.Tallies.{Tallies}
use Rattle.scheduler_state.specs.declared.Scheduler.{Scheduler}

-- A long number takes two words, its lower half first.
abbrev pub long : ℕ → List ℕ
long n = low_of n ∷ high_of n ∷ []

-- Words 0 to 2: alpha, ticks per byte.
abbrev pub settings_words : Settings → List ℕ
settings_words w = long w.alpha.0 ++ w.ticks_per_byte ∷ []

-- Words 3 to 7: the clock, when the line falls free, the marking of what started last.
abbrev pub line_words : (clock : Instant) → Line → List ℕ
line_words clock line = long clock.0 ++ (long line.free.0 ++ code_of line.last ∷ [])

-- Words 8 to 13: all waiting unmarked transmission times, the extra delays of the first and of the last.
abbrev pub extra_words : Extra → List ℕ
extra_words x = long x.sum.0 ++ (long x.first.0 ++ long x.last.0)

-- Words 14 to 18: the five tallies.
abbrev pub tally_words : Tallies → List ℕ
tally_words t = t.admitted.unmarked ∷ t.admitted.marked ∷ t.started.unmarked ∷ t.started.marked ∷ t.dropped ∷ []

abbrev pub scheduler_words : Scheduler → List ℕ
scheduler_words s = settings_words s.settings ++ (line_words s.clock s.line ++ (extra_words s.extra ++ tally_words s.tallies))

-- The same, read back.
abbrev pub long_in : Room → (k : ℕ) → ℕ
long_in r k = joined_of (kept_at r k) (kept_at r (k + 1))

abbrev pub settings_in : Room → Settings
settings_in r = record { alpha = record { 0 = long_in r 0 }; ticks_per_byte = kept_at r 2 % 65536 }

abbrev pub instant_in : Room → (k : ℕ) → Instant
instant_in r k = record { 0 = long_in r k }

abbrev pub line_in : Room → Line
line_in r = record { free = instant_in r 5; last = marking_of (kept_at r 7) }

abbrev pub extra_in : Room → Extra
extra_in r = record { sum = record { 0 = long_in r 8 }; first = record { 0 = long_in r 10 }; last = record { 0 = long_in r 12 } }

abbrev pub tallies_in : Room → Tallies
tallies_in r =
    record {
      admitted = record { unmarked = kept_at r 14; marked = kept_at r 15 };
      started = record { unmarked = kept_at r 16; marked = kept_at r 17 };
      dropped = kept_at r 18;
    }

abbrev pub scheduler_in : Room → Scheduler
scheduler_in r =
    record { settings = settings_in r; clock = instant_in r 3; line = line_in r; extra = extra_in r; tallies = tallies_in r }
