-- One call by the rules, from whatever opening and calls scheduler and room come. Assumes nothing.
use mathlib.Core.Path.{◌≡◌, refl, sym, ap, subst, subst⁻¹, ◌∙◌}
use mathlib.Core.List.{List, [], ◌∷◌, ◌++◌}
use mathlib.Core.Option.{none}
use Prim.Native.Nat.{ℕ}
use lib.Dec.{eqb}
use lib.ListN.{get_or}
use Rattle.std.specs.Prelude.{Option, Some, None, Result, Ok, Err}
use Rattle.refusals.specs.declared.Refusal.{Refusal}
use Rattle.units.specs.declared.Settings.{Settings}
use Rattle.rules.specs.Terms.{Terms, terms_of}
use Rattle.rules.specs.Line as rules
use Rattle.rules.specs.Line.{unmarked, marked, fresh}
use Rattle.rules.specs.Step.{Call, advance, Answer, admitted, started, nothing_due, refused, step, after}
use Rattle.rules.specs.Printed.{line_of, numbers_of}
use Rattle.rules.specs.Open as asked
use Rattle.room.specs.declared.Packet.{Packet}
use Rattle.room.specs.declared.Room.{Room}
use Rattle.scheduler_state.specs.declared.Scheduler.{Scheduler}
use Rattle.scheduler_state.specs.Pick.{pick}
use Rattle.scheduler_answers.specs.declared.Admitted.{Admitted}
use Rattle.scheduler_answers.specs.declared.Start.{Start}
use Rattle.scheduler_answers.specs.Values.{admission_values, admission_numbers, advance_values, advance_numbers}
use Rattle.scheduler.specs.Calls.{open_of, arrive_of, advance_of}
use Rattle.scheduler.specs.Machine.{made, FromOpening, terms_by, line_by}
use Rattle.scheduler.specs.Represents.{Represents}
use Rattle.scheduler.specs.Steps.{arrival_of, step_by, Steps}
use Rattle.scheduler.specs.Agreement.{Agrees}
use Rattle.scheduler.proofs.OneMore.{scheduler-more, room-more}
use Rattle.scheduler.proofs.Follows.{agrees, fit-from, all-faithful}
use Rattle.scheduler.proofs.Tests.{Fit}

-- The five numbers of a printed line: those of A, M, S, N and R.
abbrev numbers_in : List ℕ → List ℕ
numbers_in l =
    pick (eqb (get_or l 0 0) 82) (get_or l 1 0 ∷ 0 ∷ 0 ∷ 0 ∷ 0 ∷ [])
    (pick (eqb (get_or l 0 0) 83) (0 ∷ get_or l 1 0 ∷ get_or l 2 0 ∷ get_or l 3 0 ∷ get_or l 4 0 ∷ []) (0 ∷ get_or l 1 0 ∷ 0 ∷ get_or l 2 0 ∷ 0 ∷ []))

rules_numbers : (a : Answer) → numbers_of a ≡ numbers_in (line_of a)
rules_numbers (admitted (unmarked p) e) = refl
rules_numbers (admitted (marked m) e) = refl
rules_numbers (started s) = refl
rules_numbers nothing_due = refl
rules_numbers (refused n) = refl

admission-numbers : (a : Result Admitted Refusal) → admission_numbers a ≡ numbers_in (admission_values a)
admission-numbers (Ok (Admitted.Unmarked n e)) = refl
admission-numbers (Ok (Admitted.Marked n)) = refl
admission-numbers (Err r) = refl

advance-numbers : (a : Result (Option Start) Refusal) → advance_numbers a ≡ numbers_in (advance_values a)
advance-numbers (Ok (Some x)) = refl
advance-numbers (Ok None) = refl
advance-numbers (Err r) = refl

-- One call more at the end of a list, on the rules' line.
line-more : (σ : Terms) (l : rules.Line) (cs : List Call) (c : Call) → after σ l (cs ++ c ∷ []) ≡ (step σ (after σ l cs) c).line
unfolding after
line-more σ l [] c = refl
line-more σ l (d ∷ cs) c = line-more σ (step σ l d).line cs c

module _ (s : Scheduler) (r : Room) (o : FromOpening s r) (c : Call) where
  agreed : Agrees (terms_by o) s (made s r c) (step_by o c)
  agreed =
      let w : Settings = (asked.opening o.settings).settings in
      let l : rules.Line = line_by o in
      let f = all-faithful o.settings o.lent o.sized o.calls in
      let same : w ≡ s.settings = sym f.in_force ∙ ap (λ (s : Scheduler). s.settings) (sym o.scheduler) in
      let rep : Represents (terms_of w) s r l = rw (o.scheduler, o.room) f.represents in
      let fit : Fit (terms_of w) l = fit-from o.settings o.calls in
      subst⁻¹ (λ (v : Settings). Agrees (terms_of v) s (made s r c) (step (terms_of v) l c)) same
      (agrees s r l (subst (λ (v : Settings). Represents (terms_of v) s r l) same rep) (subst (λ (v : Settings). Fit (terms_of v) l) same fit) c)

  -- The premise with one call more.
  pub kept : FromOpening (made s r c).scheduler (made s r c).room
  kept =
      record {
        settings = o.settings;
        lent = o.lent;
        calls = o.calls ++ c ∷ [];
        sized = o.sized;
        scheduler = (λ i. (made (o.scheduler i) (o.room i) c).scheduler) ∙ sym (scheduler-more (open_of o.settings).scheduler o.lent o.calls c);
        room = (λ i. (made (o.scheduler i) (o.room i) c).room) ∙ sym (room-more (open_of o.settings).scheduler o.lent o.calls c);
      }

  stepped : (given : List ℕ) → given ≡ numbers_in (made s r c).values
      → Steps o c (made s r c).values given (made s r c).packet (made s r c).scheduler (made s r c).room
  unfolding kept
  stepped given e =
      record {
        line = agreed.values;
        numbers = e ∙ (ap numbers_in agreed.values ∙ sym (rules_numbers (step_by o c).answer));
        packet = agreed.packet;
        next = kept;
        terms = refl;
        stands = line-more (terms_by o) fresh o.calls c;
      }

module _ (s : Scheduler) (r : Room) (o : FromOpening s r) where
  pub arrival-steps : (p : Packet)
      → Steps o (arrival_of p) (made s r (arrival_of p)).values (admission_numbers (arrive_of s r p).answer) none (made s r (arrival_of p)).scheduler
      (made s r (arrival_of p)).room
  arrival-steps p = stepped s r o (arrival_of p) (admission_numbers (arrive_of s r p).answer) (admission-numbers (arrive_of s r p).answer)

  pub advance-steps : (t : ℕ)
      → Steps o (advance t) (made s r (advance t)).values (advance_numbers (advance_of s r (record { 0 = t })).answer) (made s r (advance t)).packet
      (made s r (advance t)).scheduler r
  advance-steps t = stepped s r o (advance t) (advance_numbers (advance_of s r (record { 0 = t })).answer) (advance-numbers (advance_of s r (record { 0 = t })).answer)
