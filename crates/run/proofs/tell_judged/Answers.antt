-- An accepted image has as many events as its blocks hold, and no more than 1984. Assumes nothing.
use Rattle.run.proofs.Answers.{events_few}
use Rattle.run.proofs.tell_judged.Goals as goal

pub tell_trace-requires : goal.tell_trace-requires
tell_trace-requires c = events_few _ _ _ c.requires c.in-Ok.is
