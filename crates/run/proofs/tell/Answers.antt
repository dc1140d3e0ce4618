-- The text fits, as was measured or as no text of so many events is longer. Assumes nothing.
use Rattle.std.proofs.Common.{◌≤◌, length, arith}
use Rattle.run.specs.Text.{text_of}
use Rattle.run.proofs.Most.{judged_most}
use Rattle.run.proofs.Answers.{tells}
use Rattle.run.proofs.tell.Goals.{then-answer-most_of+else-answer-tell_judged, else-answer-most_of}
use Rattle.run.proofs.tell.Goals as goal

pub most_of-requires : goal.most_of-requires
most_of-requires c = (judged_most _ _ c.judge_image-judgement.ensures).1

pub returns : goal.returns
returns c =
    let most = judged_most _ _ c.judge_image-judgement.ensures in
    let fits : length (text_of c.args.image.now) ≤ length c.args.answer.now =
    elim c.if-answer-most_of.branch [
      | then-answer-most_of+else-answer-tell_judged w ↦ omega (arith, w.tell_judged.ensures.place)
      | else-answer-most_of w ↦ omega (arith, most.0)
    ]
    in
    tells fits c.tell_judged-2.ensures
