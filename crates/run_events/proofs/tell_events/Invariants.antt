-- The events of the blocks so far are played, and their lines told; in the inner loop, those of this block before event i too. Assumes nothing.
use Rattle.std.proofs.Common.{◌+◌, ◌*◌, min}
use Rattle.run_events.proofs.Tells.{SoFar}
use Rattle.run_events.proofs.tell_events.Given as goal

abbrev pub invariant-loop-i : goal.invariant-loop-i
invariant-loop-i l =
    SoFar l.image l.fn.scheduler l.fn.room l.fn.area (31 * l.block + l.i) l.then l.room l.area

abbrev pub invariant-loop-block : goal.invariant-loop-block
invariant-loop-block l =
    SoFar l.image l.fn.scheduler l.fn.room l.fn.area (min (31 * l.block) l.events) l.then l.room l.area
