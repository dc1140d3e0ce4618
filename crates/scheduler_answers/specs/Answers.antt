-- What the three calls answer, each by its name. Assumes nothing.
use Rattle.std.specs.Prelude.{Option}
use Rattle.scheduler_answers.specs.declared.Answered.{Answered}
use Rattle.scheduler_answers.specs.declared.Admitted.{Admitted}
use Rattle.scheduler_answers.specs.declared.Start.{Start}

abbrev pub Opened : Type 0
Opened = Answered (Unit {0})

abbrev pub Arrived : Type 0
Arrived = Answered Admitted

abbrev pub Advanced : Type 0
Advanced = Answered (Option Start)
