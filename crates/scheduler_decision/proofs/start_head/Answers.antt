-- The start is the one that the definition makes.
use Rattle.scheduler_decision.specs.Decide.{start_head}
use Rattle.scheduler_decision.proofs.start_head.Goals as goal

pub returns : goal.returns
unfolding start_head
returns c = simp (c.started_marked.ensures, c.transmission_time-time.ensures, c.gone-number.ensures)
