-- The scheduler's advance, kept unless it is refused.
use Rattle.bilgethrum.proofs.Advances.{host_advances}
use Rattle.bilgethrum.proofs.bilgethrum_advance.Goals as goal

pub returns : goal.returns
returns c =
    host_advances _ c.args.at c.advance-advanced.result c.from.result c.requires
    (rw c.scheduler_in-scheduler.ensures at c.advance-advanced.ensures) c.from.ensures _ (rw c.is_ok.ensures.value at c.keep_accepted.ensures)
