-- Every list of calls from every opening: the code's answers are the rules', and its words stand for the rules' marker. Assumes nothing.
use mathlib.Core.Path.{◌≡◌, refl, subst⁻¹}
use mathlib.Core.List.{List, [], ◌∷◌}
use mathlib.Core.Option.{Option, none, some}
use Prim.Native.Nat.{◌≤◌}
use lib.ListN.{length}
use Rattle.refusals.specs.declared.Refusal.{Refusal}
use Rattle.refusals.specs.First.{first_refusal}
use Rattle.marker_flows.specs.declared.Flow.{Flow}
use Rattle.marker_flows.specs.declared.Flows.{Flows}
use Rattle.marker_flows.specs.Flows.{flows_most, open_tests, least_flow, flows_of}
use Rattle.marker_rules.specs.Terms.{Terms, terms_of}
use Rattle.marker_rules.specs.Step.{Call, Marker, fresh, step, after}
use Rattle.marker_rules.specs.Told.{told}
use Rattle.marker_rules.specs.Open.{opened}
use Rattle.marker_rules.proofs.Opens.{opens-sound}
use Rattle.marker_rules.proofs.Turns.{lasting-fresh, lasting-step, lasting-after}
use Rattle.marker.specs.Words.{Words, Sized}
use Rattle.marker.specs.Calls.{opening_words, open_words, mark_words}
use Rattle.marker.specs.Machine.{words_after, told_by, in_force, terms_by, marker_by}
use Rattle.marker.specs.Stands.{Stands}
use Rattle.marker.specs.Agreement.{AllFaithful, ContentKept}
use Rattle.marker.proofs.Laid.{stands-laid}
use Rattle.marker.proofs.Marked.{Fit, agrees}

-- The terms in force are of some flows, whether those asked for or the least.
terms-by : (ws : List Flow) (o : Option Refusal) → (opened o ws).terms ≡ terms_of (opened o ws).terms.flows
terms-by ws none = refl
terms-by ws (some r) = refl

fit-fresh : (asked : Flows) → Fit (in_force asked) (fresh (in_force asked))
fit-fresh asked =
    record {
      terms = terms-by (flows_of asked) (first_refusal (open_tests (flows_of asked)));
      range = (opens-sound (flows_of asked)).0;
      lasting = lasting-fresh (in_force asked);
    }

fit-step : (σ : Terms) (s : Marker) (c : Call) → Fit σ s → Fit σ (step σ s c).marker
fit-step σ s c k = record { terms = k.terms; range = k.range; lasting = λ f. lasting-step σ f s c (k.lasting f) }

pub fit-after : (asked : Flows) (cs : List Call) → Fit (in_force asked) (after (in_force asked) (fresh (in_force asked)) cs)
fit-after asked cs =
    let k = fit-fresh asked in
    record { terms = k.terms; range = k.range; lasting = λ f. lasting-after (in_force asked) f (fresh (in_force asked)) cs (k.lasting f) }

-- An opening's words stand for the fresh marker.
opened-by : (asked : Flows) (lent : Words) (o : Option Refusal) → Sized lent
    → length (opened o (flows_of asked)).terms.flows ≤ flows_most
    → Stands (opened o (flows_of asked)).terms (opening_words o asked lent) (fresh (opened o (flows_of asked)).terms)
opened-by asked lent none z h = stands-laid lent (flows_of asked) z h
opened-by asked lent (some r) z h = stands-laid lent (least_flow ∷ []) z h

stands-opened : (asked : Flows) (lent : Words) → Sized lent → Stands (in_force asked) (open_words asked lent) (fresh (in_force asked))
unfolding open_words
stands-opened asked lent z =
    opened-by asked lent (first_refusal (open_tests (flows_of asked))) z (opens-sound (flows_of asked)).0.most

-- From any words that stand for a marker.
module _ (σ : Terms) where
  pub told-from : (w : Words) (s : Marker) (cs : List Call) → Stands σ w s → Fit σ s → told_by w cs ≡ told σ s cs
  unfolding told_by told
  told-from w s [] k fit = refl
  told-from w s (c ∷ cs) k fit =
      let a = agrees σ w s k fit c in
      rw (a.answer, told-from (mark_words w c) (step σ s c).marker cs a.stands (fit-step σ s c fit))

  pub stands_from : (w : Words) (s : Marker) (cs : List Call) → Stands σ w s → Fit σ s → Stands σ (words_after w cs) (after σ s cs)
  unfolding words_after after
  stands_from w s [] k fit = k
  stands_from w s (c ∷ cs) k fit = stands_from (mark_words w c) (step σ s c).marker cs (agrees σ w s k fit c).stands (fit-step σ s c fit)

pub all-faithful : AllFaithful
all-faithful asked lent z cs =
    let k = stands-opened asked lent z in
    let fit = fit-fresh asked in
    record {
      told = told-from (in_force asked) (open_words asked lent) (fresh (in_force asked)) cs k fit;
      stands = stands_from (in_force asked) (open_words asked lent) (fresh (in_force asked)) cs k fit;
    }

pub content_kept : ContentKept
content_kept w o =
    subst⁻¹ (λ (v : Words). Stands (terms_by o) v (marker_by o)) o.words (all-faithful o.asked o.lent o.sized o.calls).stands
