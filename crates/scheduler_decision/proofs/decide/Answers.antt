-- Each start follows from its test.
use Rattle.scheduler_decision.specs.Decide.{decide_of}
use Rattle.scheduler_decision.proofs.decide.Goals as goal

pub returns-then-sent : goal.returns-then-sent
unfolding decide_of
returns-then-sent c = simp (← c.sent.ensures, c.if-sent.true, c.start_head.ensures)

pub returns : goal.returns
unfolding decide_of
returns c = simp (← c.sent.ensures, c.if-sent.false, c.start_first.ensures)
