-- One call more at the end of a list. Assumes nothing.
use mathlib.Core.Path.{◌≡◌, refl, ap}
use mathlib.Core.List.{List, [], ◌∷◌, ◌++◌}
use Rattle.rules.specs.Terms.{Terms}
use Rattle.rules.specs.Line.{Line}
use Rattle.rules.specs.Step.{Call, Answer, step, after, answers}

pub answers-more : (σ : Terms) (s : Line) (cs : List Call) (c : Call) → answers σ s (cs ++ c ∷ []) ≡ answers σ s cs ++ (step σ (after σ s cs) c).answer ∷ []
unfolding after answers
answers-more σ s [] c = refl
answers-more σ s (d ∷ cs) c = ap (λ (l : List Answer). (step σ s d).answer ∷ l) (answers-more σ (step σ s d).line cs c)
