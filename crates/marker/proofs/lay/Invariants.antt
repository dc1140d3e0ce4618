-- Flow by flow: with those that are to come, all are laid.
use Rattle.std.proofs.Common.{◌≡◌, drop}
use Rattle.marker.specs.Calls.{laid, laid_all}
use Rattle.marker.proofs.lay.Given as goal

abbrev pub invariant-loop-f : goal.invariant-loop-f
invariant-loop-f l = laid l.marker l.f (drop l.f l.flows) ≡ laid_all l.fn.marker l.flows
