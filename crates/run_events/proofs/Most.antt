-- How long the text of a trace gets; and what no line passes from any scheduler on, with numbers of 20 digits. Assumes nothing.
use mathlib.Core.Path.{◌≡◌, ap}
use mathlib.Core.List.{List, [], ◌∷◌, ◌++◌, map, map-append}
use Prim.Native.Nat.{ℕ, zero, suc, ◌*◌, ◌≤◌}
use native.Mathlib.Omega.{arith}
use lib.ListN.{length, length-append}
use Rattle.lists.specs.Rows.{rows}
use Rattle.lists.proofs.Rows.{length-tab}
use Rattle.units.specs.declared.Settings.{Settings}
use Rattle.rules.specs.Terms.{Terms, terms_of}
use Rattle.rules.specs.Line.{unmarked, marked, Tallies, fresh}
use Rattle.rules.specs.Step.{Call, arrive, advance, Answer, admitted, started, nothing_due, refused, step, after, answers}
use Rattle.rules.specs.History.{number_of}
use Rattle.rules.specs.Printed.{line_of, tally_line}
use Rattle.rules.specs.Open.{opening}
use Rattle.rules.specs.Bounds.{AnswerBounds, TallyBounds}
use Rattle.rules.specs.Opened.{InRange}
use Rattle.rules.proofs.OneMore.{answers-more}
use Rattle.rules.proofs.Opened.{opens-sound, answers-bounded, tallies-bounded}
use Rattle.block_image.specs.Image.{event_at}
use Rattle.room.specs.declared.Room.{Room}
use Rattle.scheduler_state.specs.declared.Scheduler.{Scheduler}
use Rattle.std.specs.Prelude.{Option, Some, None, Result, Ok, Err}
use Rattle.refusals.specs.declared.Refusal.{Refusal}
use Rattle.refusals.specs.Numbers.{number}
use Rattle.scheduler_answers.specs.declared.Admitted.{Admitted}
use Rattle.scheduler_answers.specs.declared.Start.{Start}
use Rattle.scheduler.specs.Calls.{arrive_of, advance_of}
use Rattle.scheduler_answers.specs.Packets.{packet_of}
use Rattle.scheduler_answers.specs.Values.{admission_values, advance_values}
use Rattle.scheduler.specs.Machine.{made, bytes, instant, scheduler_after, room_after}
use Rattle.text.specs.Text.{values_text, lines_text}
use Rattle.text.proofs.Fields.{line-most, line-within}
use Rattle.text.proofs.Lines.{lines_more}
use Rattle.run_events.specs.Calls.{call_of}
use Rattle.run_events.specs.Trace.{calls_of}
use Rattle.run_events.specs.Most.{line_most, tally_most, TraceMost}
use Rattle.run_events.specs.Tells.{events_text}
use Rattle.run_events.proofs.Tells.{values_at, text_none, text_next}

refused-most : (r : Refusal) → length (values_text (82 ∷ number r ∷ [])) ≤ 86
refused-most r = line-most 82 (number r ∷ []) 4 (omega arith)

admission-most : (a : Result Admitted Refusal) → length (values_text (admission_values a)) ≤ 86
admission-most (Ok (Admitted.Unmarked n e)) = line-most 65 (n ∷ e.0 ∷ []) 4 (omega arith)
admission-most (Ok (Admitted.Marked n)) = line-most 77 (n ∷ []) 4 (omega arith)
admission-most (Err r) = refused-most r

advance-most : (o : Result (Option Start) Refusal) → length (values_text (advance_values o)) ≤ 86
advance-most (Ok (Some x)) = line-most 83 (x.number ∷ x.at.0 ∷ x.extra.0 ∷ x.dropped ∷ []) 4 (omega arith)
advance-most (Ok None) = line-most 78 [] 4 (omega arith)
advance-most (Err r) = refused-most r

event-most : (s : Scheduler) (r : Room) (c : Call) → length (values_text (made s r c).values) ≤ 86
event-most s r (arrive μ len place t) = admission-most (arrive_of s r (packet_of μ (bytes len) place (instant t))).answer
event-most s r (advance t) = advance-most (advance_of s r (instant t)).answer

pub events-most : (image : List ℕ) (s : Scheduler) (r : Room) (k : ℕ) → length (events_text image s r k) ≤ 86 * k
events-most image s r zero = omega (arith, ap length (text_none image s r))
events-most image s r (suc k) =
    omega (
      arith,
      events-most image s r k,
      event-most (scheduler_after s r (calls_of image k)) (room_after s r (calls_of image k)) (call_of (event_at image k)),
      ap length (text_next image s r k),
      length-append (events_text image s r k) (values_text (values_at image s r k)),
    )

-- From an opening, no number is longer than the rules let it get.
line-short : (w : Settings) (n : ℕ) (a : Answer) → n ≤ 1984 → InRange w → AnswerBounds (terms_of w) n a → length (values_text (line_of a)) ≤ line_most
line-short w n (admitted (unmarked p) e) few r h = omega (arith, line-within 65 (4 ∷ 7 ∷ []) (p.number ∷ e ∷ []) (omega arith))
line-short w n (admitted (marked m) e) few r h = omega (arith, line-within 77 (4 ∷ []) (m.number ∷ []) (omega arith))
line-short w n (started x) few r h =
    omega (arith, line-within 83 (4 ∷ 16 ∷ 7 ∷ 2 ∷ []) (number_of x ∷ x.at ∷ x.extra ∷ x.dropped ∷ []) (omega arith))
line-short w n nothing_due few r h = omega arith
line-short w n (refused k) few r h = omega (arith, line-within 82 (1 ∷ []) (number k ∷ []) (omega arith))

tally-short : (n : ℕ) (k : Tallies) → n ≤ 1984 → TallyBounds n k → length (values_text (tally_line k)) ≤ tally_most
tally-short n k few h =
    omega (
      arith,
      line-within 84 (4 ∷ 4 ∷ 4 ∷ 4 ∷ 4 ∷ [])
          (k.unmarked_admitted ∷ k.marked_admitted ∷ k.unmarked_started ∷ k.marked_started ∷ k.marked_dropped ∷ []) (omega arith),
    )

module _ (image : List ℕ) (settings : Settings) where
  abbrev σ : Terms
  σ = terms_of (opening settings).settings

  abbrev lines : ℕ → List (List ℕ)
  lines k = map line_of (answers σ fresh (calls_of image k))

  -- The answer to event k.
  abbrev answer_at : ℕ → Answer
  answer_at k = (step σ (after σ fresh (calls_of image k)) (call_of (event_at image k))).answer

  answer-short : (k : ℕ) → suc k ≤ 1984 → length (values_text (line_of (answer_at k))) ≤ line_most
  answer-short k few =
      line-short (opening settings).settings (suc (length (calls_of image k))) (answer_at k) (omega (arith, length-tab k (λ k. call_of (event_at image k))))
      (opens-sound settings).0 (answers-bounded settings (calls_of image k) (call_of (event_at image k)))

  lines_next : (k : ℕ) → lines_text (lines (suc k)) ≡ lines_text (lines k) ++ values_text (line_of (answer_at k))
  unfolding rows
  lines_next k =
      rw (answers-more σ fresh (calls_of image k) (call_of (event_at image k)), map-append line_of (answers σ fresh (calls_of image k)) (answer_at k ∷ []))
      (lines_more (lines k) (line_of (answer_at k)))

  lines-short : (k : ℕ) → k ≤ 1984 → length (lines_text (lines k)) ≤ line_most * k
  unfolding rows answers
  lines-short zero few = omega arith
  lines-short (suc k) few =
      omega (
        arith,
        lines-short k (omega arith),
        answer-short k few,
        ap length (lines_next k),
        length-append (lines_text (lines k)) (values_text (line_of (answer_at k))),
      )

pub trace_most : TraceMost
trace_most image settings n few =
    let t : Tallies = (after (terms_of (opening settings).settings) fresh (calls_of image n)).tallies in
    omega (
      arith,
      lines-short image settings n few,
      tally-short (length (calls_of image n)) t (omega (arith, length-tab n (λ k. call_of (event_at image k)))) (tallies-bounded settings (calls_of image n)),
      ap length (lines_more (lines image settings n) (tally_line t)),
      length-append (lines_text (lines image settings n)) (values_text (tally_line t)),
    )
