-- What is kept is given back: each word stands where it is read, and two halves are the number. Assumes nothing.
use mathlib.Core.Path.{◌≡◌}
use Prim.Native.Nat.{ℕ, ◌+◌, ◌%◌, ◌<◌}
use native.Mathlib.Omega.{arith}
use lib.ListN.{get_or}
use Rattle.room.specs.declared.Room.{Room}
use Rattle.room.specs.Room.{kept_at, with_kept}
use Rattle.room.specs.Held.{Sized}
use Rattle.room.proofs.Words.{joined_back}
use Rattle.room.proofs.Stored.{marking_back}
use Rattle.room.proofs.Keeping.{kept_there}
use Rattle.scheduler_state.specs.declared.Scheduler.{Scheduler}
use Rattle.scheduler_kept.specs.Words.{scheduler_words}
use Rattle.scheduler_kept.specs.Back.{KeptBack}

word : (r : Room) (s : Scheduler) → Sized r → (k : ℕ) → k < 19 → kept_at (with_kept r 0 (scheduler_words s)) k ≡ get_or (scheduler_words s) k 0
word r s z k h = let same : 0 + k ≡ k = omega arith in rw same at (kept_there r 0 (scheduler_words s) k h (omega arith) z)

pub kept_back : KeptBack
kept_back r s z small =
    let ticks : s.settings.ticks_per_byte % 65536 ≡ s.settings.ticks_per_byte = omega arith in
    rw (
      word r s z 0 (omega arith),
      word r s z 1 (omega arith),
      word r s z 2 (omega arith),
      word r s z 3 (omega arith),
      word r s z 4 (omega arith),
      word r s z 5 (omega arith),
      word r s z 6 (omega arith),
      word r s z 7 (omega arith),
      word r s z 8 (omega arith),
      word r s z 9 (omega arith),
      word r s z 10 (omega arith),
      word r s z 11 (omega arith),
      word r s z 12 (omega arith),
      word r s z 13 (omega arith),
      word r s z 14 (omega arith),
      word r s z 15 (omega arith),
      word r s z 16 (omega arith),
      word r s z 17 (omega arith),
      word r s z 18 (omega arith),
      ticks,
      marking_back s.line.last,
      joined_back s.settings.alpha.0,
      joined_back s.clock.0,
      joined_back s.line.free.0,
      joined_back s.extra.sum.0,
      joined_back s.extra.first.0,
      joined_back s.extra.last.0,
    )
