-- The call's line, and what the call promises. Assumes nothing.
use Rattle.run_events.proofs.Plays.{arrival_plays, advance_plays, coming_plays}
use Rattle.run_events.proofs.play.Goals as goal

pub returns-in-Arrival : goal.returns-in-Arrival
returns-in-Arrival c =
    coming_plays _ _ _ c.from.ensures c.in-Arrival.is (arrival_plays _ _ _ _ _ _ _ c.arrive-arrived.ensures c.tell_admission.ensures)

pub returns-in-Advance : goal.returns-in-Advance
returns-in-Advance c =
    coming_plays _ _ _ c.from.ensures c.in-Advance.is (advance_plays _ _ _ _ _ c.advance-advanced.result c.advance-advanced.ensures c.tell_advance.ensures)
