-- The two calls from their definitions: what each gives is by the rules, and the premise is kept. Assumes nothing.
use mathlib.Core.Path.{◌≡◌, refl, sym, ap, ◌∙◌}
use mathlib.Core.Bool.{Bool, true, false}
use mathlib.Core.List.{List, [], ◌∷◌, ◌++◌}
use mathlib.Core.Option.{Option, none, some}
use Prim.Native.Nat.{ℕ, ◌*◌, ◌-◌, ◌≤◌, ◌<◌}
use native.Mathlib.Omega.{arith}
use borrow.Author.Tests.{le-leb, lt-leb}
use Rattle.std.specs.Prelude.{Result, Ok, Err}
use Rattle.refusals.specs.declared.Refusal.{Refusal}
use Rattle.refusals.specs.First.{answer_by}
use Rattle.refusals.proofs.Laws.{given-none, given-some}
use Rattle.units.specs.declared.Marking.{Marking}
use Rattle.marker_flows.specs.declared.Flow.{Flow}
use Rattle.marker_flows.specs.declared.Flows.{Flows}
use Rattle.marker_flows.specs.Flows.{flows_most, least_flow, flows_of}
use Rattle.marker_flows.proofs.Asked.{flows_counted}
use Rattle.marker_rules.specs.Terms.{Terms}
use Rattle.marker_rules.specs.Bucket.{million}
use Rattle.marker_rules.specs.Step.{Call, Marker, fresh, step, after}
use Rattle.marker_rules.specs.Numbers.{numbers_of}
use Rattle.marker_rules.specs.Open.{opened}
use Rattle.marker_rules.proofs.Opens.{in_range_lem, opens-sound}
use Rattle.marker.specs.Words.{Words, holding}
use Rattle.marker.specs.Lookable.{Lookable}
use Rattle.marker.specs.Calls.{laid_all, open_refusal, open_of, open_words, refusal_in, level_in, holds_in, marking, mark_of, marking_words, mark_words}
use Rattle.marker.specs.Values.{opening_number}
use Rattle.marker.specs.Machine.{words_after, FromOpening, terms_by, marker_by}
use Rattle.marker.specs.Promises.{Opens, Steps, Marks}
use Rattle.marker.proofs.Marked.{agrees, lookable}
use Rattle.marker.proofs.Follows.{fit-after, content_kept}

-- OPEN. Its number is the rules'.
number_by : (ws : List Flow) (o : Option Refusal) → opening_number (answer_by o tt) ≡ (opened o ws).number
number_by ws none = refl
number_by ws (some r) = refl

opens : (asked : Flows) (before : Words) (r : Result (Unit {0}) Refusal) (left : Words) → r ≡ open_of asked → left ≡ open_words asked before
    → Opens asked before r left
unfolding words_after after
opens asked before r left e f =
    record {
      value = e;
      words = f;
      number = ap opening_number e ∙ number_by (flows_of asked) (open_refusal asked);
      kept = λ z. record { asked = asked; lent = before; calls = []; sized = z; words = f };
      terms = λ z. refl;
      stands = λ z. sym (opens-sound (flows_of asked)).2;
    }

-- What an opening does once it is judged.
module _ (asked : Flows) (judged : Result (Unit {0}) Refusal) (is : judged ≡ open_of asked) where
  -- Where it is not refused, there are words for every flow.
  pub open_fits : judged ≡ Ok tt → asked.count ≤ flows_most
  open_fits e =
      let taken = in_range_lem (flows_of asked) (given-none (open_refusal asked) tt tt (sym is ∙ e)) in
      omega (arith, taken.most, flows_counted asked)

  pub open_refuses : (r : Refusal) → judged ≡ Err r → (before left : Words) → left ≡ laid_all before (least_flow ∷ []) → Opens asked before (Err r) left
  unfolding open_words
  open_refuses r e before left f =
      opens asked before (Err r) left (sym e ∙ is) (f ∙ rw (given-some (open_refusal asked) tt r (sym is ∙ e)))

  pub open_takes : judged ≡ Ok tt → (ws : List Flow) → ws ≡ flows_of asked → (before left : Words) → left ≡ laid_all before ws → Opens asked before (Ok tt) left
  unfolding open_words
  open_takes e ws g before left f =
      opens asked before (Ok tt) left (sym e ∙ is) (f ∙ rw (g, given-none (open_refusal asked) tt tt (sym is ∙ e)))

-- One call more at the end of a list, on the words and on the rules' marker.
words_more : (w : Words) (cs : List Call) (c : Call) → words_after w (cs ++ c ∷ []) ≡ mark_words (words_after w cs) c
unfolding words_after
words_more w [] c = refl
words_more w (d ∷ cs) c = words_more (mark_words w d) cs c

marker-more : (σ : Terms) (s : Marker) (cs : List Call) (c : Call) → after σ s (cs ++ c ∷ []) ≡ (step σ (after σ s cs) c).marker
unfolding after
marker-more σ s [] c = refl
marker-more σ s (d ∷ cs) c = marker-more σ (step σ s d).marker cs c

-- A refusal leaves the words.
refused-by : (o : Option Refusal) (b : Bool) (w : Words) (c : Call) (r : Refusal) → answer_by o (marking b) ≡ Err r → marking_words o b w c ≡ w
refused-by o b w c r e = rw (given-some o (marking b) r e)

refusal_leaves : (w : Words) (c : Call) (r : Refusal) → mark_of w c ≡ Err r → mark_words w c ≡ w
unfolding mark_of mark_words
refusal_leaves w c r e = refused-by (refusal_in w c) (holds_in w c) w c r e

-- MARK, on words that come from an opening.
module _ (w : Words) (o : FromOpening w) (c : Call) where
  -- The premise with one call more.
  kept : FromOpening (mark_words w c)
  kept =
      record {
        asked = o.asked;
        lent = o.lent;
        calls = o.calls ++ c ∷ [];
        sized = o.sized;
        words = ap (λ (v : Words). mark_words v c) o.words ∙ sym (words_more (open_words o.asked o.lent) o.calls c);
      }

  stepped : Steps o c (mark_of w c) (mark_words w c)
  unfolding kept
  stepped =
      let same = (agrees (terms_by o) w (marker_by o) (content_kept w o) (fit-after o.asked o.calls) c).answer in
      record {
        answer = same;
        numbers = ap numbers_of same;
        next = kept;
        terms = refl;
        stands = marker-more (terms_by o) (fresh (terms_by o)) o.calls c;
      }

marks : (w : Words) (c : Call) (r : Result Marking Refusal) (left : Words) → FromOpening w → r ≡ mark_of w c → left ≡ mark_words w c → Marks w c r left
marks w c r left o e f =
    record {
      value = e;
      words = f;
      kept = rw f (kept w o c);
      steps = λ o. rw (e, f) (stepped w o c);
      refusal = λ q i. f ∙ refusal_leaves w c q (sym e ∙ i);
    }

-- What a packet is answered once it is judged.
module _ (w : Words) (c : Call) (o : FromOpening w) (judged : Result (Unit {0}) Refusal) (is : judged ≡ answer_by (refusal_in w c) tt) where
  pub mark_refuses : (r : Refusal) → judged ≡ Err r → Marks w c (Err r) w
  unfolding mark_of mark_words
  mark_refuses r e =
      let refused = given-some (refusal_in w c) tt r (sym is ∙ e) in
      marks w c (Err r) w o (rw refused) (rw refused)

  module _ (e : judged ≡ Ok tt) where
    taken : refusal_in w c ≡ none
    taken = given-none (refusal_in w c) tt tt (sym is ∙ e)

    -- The bucket may be looked at where the packet is not refused.
    pub mark_looks : Lookable w c.flow c.at
    mark_looks = lookable (terms_by o) w (marker_by o) (content_kept w o) (fit-after o.asked o.calls) c taken

    module _ (level : ℕ) (l : level ≡ level_in w c.flow c.at) (left : Words) where
      pub mark_pays : million * c.len ≤ level → left ≡ holding w c.flow (level - million * c.len) c.at → Marks w c (Ok Marking.Unmarked) left
      unfolding mark_of mark_words
      mark_pays h f =
          let holds : holds_in w c ≡ true = rw (← l) (le-leb (million * c.len) level h) in
          marks w c (Ok Marking.Unmarked) left o (rw (taken, holds)) (f ∙ rw (taken, holds, l))

      pub mark_marks : level < million * c.len → left ≡ holding w c.flow level c.at → Marks w c (Ok Marking.Marked) left
      unfolding mark_of mark_words
      mark_marks h f =
          let holds : holds_in w c ≡ false = rw (← l) (lt-leb (million * c.len) level h) in
          marks w c (Ok Marking.Marked) left o (rw (taken, holds)) (f ∙ rw (taken, holds, l))
