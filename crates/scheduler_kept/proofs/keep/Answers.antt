-- Each word behind the one before.
use Rattle.room.specs.Room.{with_kept}
use Rattle.scheduler_kept.proofs.keep.Goals as goal

pub returns : goal.returns
unfolding with_kept
returns c =
    simp (
      c.keep-7.ensures,
      c.keep-6.ensures,
      c.keep-5.ensures,
      c.keep-4.ensures,
      c.keep-3.ensures,
      c.keep_long-6.ensures,
      c.keep_long-5.ensures,
      c.keep_long-4.ensures,
      c.keep-2.ensures,
      c.from-2.ensures,
      c.keep_long-3.ensures,
      c.keep_long-2.ensures,
      c.keep.ensures,
      c.from.ensures,
      c.keep_long.ensures,
    )
