-- Every list of calls has the premise, and each promise leaves one possible answer and one content of the words. Assumes nothing.
use mathlib.Core.Path.{refl, sym, ◌∙◌}
use Rattle.marker.specs.Promises.{EveryList, OneOpening, OneMarking}

pub every_list : EveryList
every_list asked lent z cs = record { asked = asked; lent = lent; calls = cs; sized = z; words = refl }

pub one-opening : OneOpening
one-opening asked before r q left other h k = (h.value ∙ sym k.value, h.words ∙ sym k.words)

pub one-marking : OneMarking
one-marking w c r q left other h k = (h.value ∙ sym k.value, h.words ∙ sym k.words)
