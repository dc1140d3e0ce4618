-- One event more: the scheduler and its room, and the text. Assumes nothing.
use mathlib.Core.Path.{◌≡◌, refl, sym, ap, subst, ◌∙◌}
use mathlib.Core.Bool.{Bool, true, false}
use mathlib.Core.List.{List, [], ◌∷◌, ◌++◌}
use Prim.Native.Nat.{ℕ, zero, suc, ◌+◌, ◌≤◌}
use native.Mathlib.Numerals.{add-one}
use native.Mathlib.Omega.{arith}
use lib.Dec.{leb}
use lib.ListN.{length, length-append}
use borrow.Author.Tests.{leb-true, leb-false}
use Rattle.lists.specs.Rows.{rows}
use Rattle.block_record.specs.declared.Event.{Event}
use Rattle.block_image.specs.Image.{event_at}
use Rattle.room.specs.declared.Room.{Room}
use Rattle.scheduler_state.specs.declared.Scheduler.{Scheduler}
use Rattle.scheduler.specs.Machine.{made, scheduler_after, room_after, values_by, FromOpening}
use Rattle.text.specs.Text.{values_text}
use Rattle.text_digits.specs.declared.Area.{Area}
use Rattle.text_lines.specs.Told.{Tells}
use Rattle.text_lines.proofs.Tells.{tells_none, tells_then}
use Rattle.run_events.specs.Calls.{call_of}
use Rattle.run_events.specs.Trace.{calls_of}
use Rattle.run_events.specs.Plays.{Plays}
use Rattle.run_events.specs.Tells.{events_text, Reached}
use Rattle.scheduler.proofs.OneMore.{scheduler-more, room-more, values-more}
use Rattle.text.proofs.Lines.{lines_more}
use Rattle.run_events.proofs.Plays.{event_plays}

module _ (image : List ℕ) (s : Scheduler) (r : Room) where
  calls-next : (k : ℕ) → calls_of image (suc k) ≡ calls_of image k ++ call_of (event_at image k) ∷ []
  unfolding rows
  calls-next k = refl

  -- The values of event k.
  abbrev pub values_at : ℕ → List ℕ
  values_at k = (made (scheduler_after s r (calls_of image k)) (room_after s r (calls_of image k)) (call_of (event_at image k))).values

  pub text_next : (k : ℕ) → events_text image s r (suc k) ≡ events_text image s r k ++ values_text (values_at k)
  text_next k =
      rw (calls-next k, values-more s r (calls_of image k) (call_of (event_at image k)))
      (lines_more (values_by s r (calls_of image k)) (values_at k))

  -- The text only grows.
  grows-by : (i n : ℕ) (b : Bool) → leb i n ≡ b → i ≤ suc n → (i ≤ n → length (events_text image s r i) ≤ length (events_text image s r n))
      → length (events_text image s r i) ≤ length (events_text image s r (suc n))
  grows-by i n true e h go =
      omega (arith, go (leb-true _ _ e), ap length (text_next n), length-append (events_text image s r n) (values_text (values_at n)))
  grows-by i n false e h go =
      let same : i ≡ suc n = omega (arith, leb-false) in
      rw same (omega arith)

  grows : (i n : ℕ) → i ≤ n → length (events_text image s r i) ≤ length (events_text image s r n)
  grows i zero h =
      let same : i ≡ 0 = omega arith in
      rw same (omega arith)
  grows i (suc n) h = grows-by i n (leb i n) refl h (grows i n)

  -- One event played, from where the first k have led.
  module _ (k : ℕ) (then : Scheduler) (room left : Room) (e : Event) (x : Scheduler) (a b : Area)
      (before : Reached image s r k then room) (is : e ≡ event_at image k) (plays : Plays a b then room (call_of e) x left) where
    at : Plays a b then room (call_of (event_at image k)) x left
    at = event_plays (sym is) plays

    pub reached-more : Reached image s r (k + 1) x left
    reached-more =
        rw (add-one k)
        (record {
          scheduler =
              at.scheduler ∙ rw (before.scheduler, before.room) (sym (scheduler-more s r (calls_of image k) (call_of (event_at image k))) ∙ rw (calls-next k));
          room = at.room ∙ rw (before.scheduler, before.room) (sym (room-more s r (calls_of image k) (call_of (event_at image k))) ∙ rw (calls-next k));
          kept = plays.kept;
        })

    values : (made then room (call_of (event_at image k))).values ≡ values_at k
    values = rw (before.scheduler, before.room)

    pub line-told : Tells a (values_text (values_at k)) b
    line-told = subst (λ (v : List ℕ). Tells a (values_text v) b) values at.line

-- Before the first event.
pub reached-none : (image : List ℕ) (s : Scheduler) (r : Room) → FromOpening s r → Reached image s r 0 s r
unfolding rows scheduler_after room_after
reached-none image s r h = record { scheduler = refl; room = refl; kept = h }

pub text_none : (image : List ℕ) (s : Scheduler) (r : Room) → events_text image s r 0 ≡ []
unfolding rows values_by
text_none image s r = refl

-- The first k events were played from the scheduler s and the room r, and their lines told to an area that was a before.
pub record SoFar (image : List ℕ) (s : Scheduler) (r : Room) (a : Area) (k : ℕ) (then : Scheduler) (room : Room) (area : Area) : Type 0 where
  pub reached : Reached image s r k then room
  pub told : Tells a (events_text image s r k) area

pub so_far_none : (image : List ℕ) (s : Scheduler) (r : Room) (a : Area) → FromOpening s r → SoFar image s r a 0 s r a
so_far_none image s r a h = record { reached = reached-none image s r h; told = rw (text_none image s r) (tells_none a) }

pub so_far_more : (image : List ℕ) (s : Scheduler) (r : Room) (a : Area) (k : ℕ) (then : Scheduler) (room left : Room) (area after : Area)
    (e : Event) (x y : Scheduler) → SoFar image s r a k then room area → e ≡ event_at image k → Plays area after then room (call_of e) x left
    → y ≡ x → SoFar image s r a (k + 1) y left after
so_far_more image s r a k then room left area after e x y h is plays copy =
    rw copy
    (record {
      reached = reached-more image s r k then room left e x area after h.reached is plays;
      told =
          rw (add-one k, text_next image s r k)
          (tells_then h.told (line-told image s r k then room left e x area after h.reached is plays));
    })
