-- The start is the one that the definition makes of what the room gives.
use Rattle.scheduler_decision.specs.Decide.{start_first}
use Rattle.scheduler_decision.proofs.start_first.Goals as goal

pub returns : goal.returns
unfolding start_first
returns c =
    simp (
      c.started_unmarked.ensures,
      c.difference_of-less.ensures,
      c.transmission_time-time.ensures,
      c.gone.ensures,
      c.packet_at-packet.ensures,
      c.number_of-number.ensures,
    )
