-- The scheduler's opening, kept.
use Rattle.bilgethrum.proofs.Opens.{host_opens}
use Rattle.bilgethrum.proofs.bilgethrum_open.Goals as goal

pub returns : goal.returns
returns c =
    host_opens c.args.settings _ c.open-opened.result (rw c.from.ensures at c.open-opened.ensures) _ _ c.refusal_of.ensures
    c.keep.ensures
