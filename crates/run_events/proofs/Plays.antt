-- What the scheduler's promises say of one event's line. Assumes nothing.
use mathlib.Core.Path.{◌≡◌, refl, sym, ap, subst, subst⁻¹, ◌∙◌}
use Rattle.units.specs.declared.Instant.{Instant}
use Rattle.rules.specs.Step.{Call, advance}
use Rattle.room.specs.declared.Packet.{Packet}
use Rattle.room.specs.declared.Room.{Room}
use Rattle.scheduler_state.specs.declared.Scheduler.{Scheduler}
use Rattle.scheduler_answers.specs.Answers.{Arrived}
use Rattle.scheduler_answers.specs.Answers.{Advanced}
use Rattle.scheduler_answers.specs.Values.{admission_values, advance_values}
use Rattle.scheduler.specs.Steps.{arrival_of}
use Rattle.scheduler.specs.Promises.{Arrives, Advances}
use Rattle.text.specs.Text.{values_text}
use Rattle.text_digits.specs.declared.Area.{Area}
use Rattle.text_lines.specs.Told.{Tells}
use Rattle.block_record.specs.declared.Event.{Event}
use Rattle.run_events.specs.declared.Coming.{Coming}
use Rattle.run_events.specs.Calls.{call_of, coming_call}
use Rattle.run_events.specs.Plays.{Plays}

pub arrival_plays : (a b : Area) (s : Scheduler) (r : Room) (p : Packet) (x : Arrived) (left : Room)
    → Arrives s r p x left → Tells a (values_text (admission_values x.answer)) b
    → Plays a b s r (arrival_of p) x.scheduler left
arrival_plays a b s r p x left arrives h =
    record {
      line = subst (λ (y : Arrived). Tells a (values_text (admission_values y.answer)) b) arrives.value h;
      scheduler = ap (λ (y : Arrived). y.scheduler) arrives.value;
      room = arrives.room;
      kept = arrives.kept;
    }

pub advance_plays : (a b : Area) (s : Scheduler) (r : Room) (t : Instant) (x : Advanced)
    → Advances s r t x → Tells a (values_text (advance_values x.answer)) b
    → Plays a b s r (advance t.0) x.scheduler r
advance_plays a b s r t x advances h =
    record {
      line = subst (λ (y : Advanced). Tells a (values_text (advance_values y.answer)) b) advances.value h;
      scheduler = ap (λ (y : Advanced). y.scheduler) advances.value;
      room = refl;
      kept = advances.kept;
    }

pub event_plays : {a b : Area} {s : Scheduler} {r : Room} {e f : Event} {x : Scheduler} {left : Room} → e ≡ f
    → Plays a b s r (call_of f) x left → Plays a b s r (call_of e) x left
event_plays {a} {b} {s} {r} {e} {f} {x} {left} h p = subst⁻¹ (λ (g : Event). Plays a b s r (call_of g) x left) h p

pub coming_plays : {a b : Area} {s : Scheduler} {r : Room} {x : Scheduler} {left : Room} (e : Event) (y z : Coming) → coming_call y ≡ call_of e → y ≡ z
    → Plays a b s r (coming_call z) x left → Plays a b s r (call_of e) x left
coming_plays {a} {b} {s} {r} {x} {left} e y z h k p = subst (λ (c : Call). Plays a b s r c x left) (ap coming_call (sym k) ∙ h) p
