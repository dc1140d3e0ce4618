-- The whole run has one answer. Assumes nothing.
use mathlib.Core.Path.{sym, ◌∙◌}
use Rattle.run.specs.Unique.{OneTelling, OneAnswer}

pub one_telling : OneTelling
one_telling image before after after' answer answer' a b = (a.result ∙ sym b.result, a.area ∙ sym b.area)

pub one_answer : OneAnswer
one_answer image before after after' number number' a b = (a.result ∙ sym b.result, a.area ∙ sym b.area)
