-- There is one view, and it has one judgement and one refusal number. Assumes nothing.
use mathlib.Core.Path.{sym, ◌∙◌}
use Rattle.payload.specs.Unique.{OneView, OneViewJudgement, OneViewRefusal}

pub one_view : OneView
one_view area len place v w a b = (a.block ∙ sym b.block, a.start ∙ sym b.start, a.bytes ∙ sym b.bytes)

pub one_view_judgement : OneViewJudgement
one_view_judgement area len place j k a b = a ∙ sym b

pub one_view_refusal : OneViewRefusal
one_view_refusal area len place r q a b = a ∙ sym b
