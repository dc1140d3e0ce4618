-- The scheduler's arrival, kept unless it is refused.
use Rattle.bilgethrum.proofs.Arrives.{host_arrives}
use Rattle.bilgethrum.proofs.bilgethrum_arrive.Goals as goal

pub returns : goal.returns
returns c =
    host_arrives _ c.args.packet c.arrive-arrived.result _ c.from-2.result c.requires
    (rw (c.scheduler_in-scheduler.ensures, c.from.ensures) at c.arrive-arrived.ensures) c.from-2.ensures _
    (rw c.is_ok.ensures.value at c.keep_accepted.ensures)
