-- The answer and the settings in force follow from the refusal, and the premise from there on.
use Rattle.std.proofs.Common.{sym, ◌∙◌}
use Rattle.refusals.proofs.Laws.{given-none, given-some}
use Rattle.scheduler.proofs.Public.{opened}
use Rattle.scheduler.proofs.open.Goals as goal
use Rattle.scheduler.proofs.open.Goals.{in-Ok, in-Err}

pub returns : goal.returns
returns c =
    opened c.args.settings _
    (elim c.match-answer.branch [
      | in-Ok w ↦
          let e = given-none _ _ _ (sym c.judge_settings-answer.ensures ∙ w.in-Ok.is) in
          simp (w.in-Ok.is, e, c.fresh.ensures, w.in_force-is)
      | in-Err w ↦
          let e = given-some _ _ _ (sym c.judge_settings-answer.ensures ∙ w.in-Err.is) in
          simp (w.in-Err.is, e, c.fresh.ensures, w.in_force-is)
    ])
