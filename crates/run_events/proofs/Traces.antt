-- The text of a trace: the lines that the scheduler's answers give, and the tally line. Assumes nothing.
use mathlib.Core.Path.{◌≡◌, sym, ap, ◌∙◌}
use mathlib.Core.List.{List, ◌++◌, map}
use Prim.Native.Nat.{ℕ}
use Rattle.units.specs.declared.Settings.{Settings}
use Rattle.rules.specs.Terms.{terms_of}
use Rattle.rules.specs.Line.{fresh}
use Rattle.rules.specs.Step.{after, answers}
use Rattle.rules.specs.Printed.{line_of, tally_line}
use Rattle.rules.specs.Open.{opening}
use Rattle.room.specs.declared.Room.{Room}
use Rattle.room.specs.Held.{Sized}
use Rattle.scheduler_state.specs.declared.Scheduler.{Scheduler}
use Rattle.scheduler_answers.specs.Answers.{Opened}
use Rattle.scheduler.specs.Calls.{open_of}
use Rattle.scheduler_answers.specs.Values.{tally_values}
use Rattle.scheduler.specs.Machine.{scheduler_after}
use Rattle.scheduler.specs.Promises.{Opens}
use Rattle.scheduler.proofs.Follows.{all-faithful}
use Rattle.text.specs.Text.{values_text, lines_text}
use Rattle.run_events.specs.Trace.{calls_of, trace_text}
use Rattle.run_events.specs.Tells.{events_text}
use Rattle.text.proofs.Lines.{lines_more}

module _ (image : List ℕ) (settings : Settings) (n : ℕ) (lent : Room) (sized : Sized lent) where
  by_code_lem : trace_text image settings n
      ≡ events_text image (open_of settings).scheduler lent n
      ++ values_text (tally_values (scheduler_after (open_of settings).scheduler lent (calls_of image n)).tallies)
  by_code_lem =
      let f = all-faithful settings lent sized (calls_of image n) in
      let given = answers (terms_of (opening settings).settings) fresh (calls_of image n) in
      let tallied = (after (terms_of (opening settings).settings) fresh (calls_of image n)).tallies in
      lines_more (map line_of given) (tally_line tallied)
      ∙ ap (λ (l : List (List ℕ)). lines_text l ++ values_text (tally_line tallied)) (sym f.given)
      ∙ ap (λ (v : List ℕ). events_text image (open_of settings).scheduler lent n ++ values_text v) (sym f.tallies)

module _ (image : List ℕ) (settings : Settings) (n : ℕ) (lent : Room) (sized : Sized lent) (x : Opened) (opens : Opens settings x) where
  -- From the scheduler that was opened.
  opened : trace_text image settings n
      ≡ events_text image x.scheduler lent n ++ values_text (tally_values (scheduler_after x.scheduler lent (calls_of image n)).tallies)
  opened =
      by_code_lem image settings n lent sized
      ∙ ap (λ (y : Opened). events_text image y.scheduler lent n ++ values_text (tally_values (scheduler_after y.scheduler lent (calls_of image n)).tallies))
      (sym opens.value)

  -- The tally line behind the events' lines.
  pub trace_text_lem : (then : Scheduler) → then ≡ scheduler_after x.scheduler lent (calls_of image n)
      → trace_text image settings n ≡ events_text image x.scheduler lent n ++ values_text (tally_values then.tallies)
  trace_text_lem then after =
      opened ∙ ap (λ (s : Scheduler). events_text image x.scheduler lent n ++ values_text (tally_values s.tallies)) (sym after)
