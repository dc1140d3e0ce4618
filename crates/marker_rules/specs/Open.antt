-- Opening, with its refusals. Assumes nothing.
use Rattle.std.specs.Prelude.{List, [], ◌∷◌, ℕ}
use Rattle.std.proofs.Math.Option.{Option, none, some}
use Rattle.refusals.specs.declared.Refusal.{Refusal}
use Rattle.refusals.specs.Numbers.{number}
use Rattle.refusals.specs.First.{first_refusal}
use Rattle.marker_flows.specs.declared.Flow.{Flow}
use Rattle.marker_flows.specs.Flows.{open_tests, least_flow}
use Rattle.marker_rules.specs.Terms.{Terms, terms_of}
use Rattle.marker_rules.specs.Step.{Marker, fresh}

-- The refusal's number (0 if none), the terms in force, and the marker.
pub record Opened : Type 0 where
  pub number : ℕ
  pub terms : Terms
  pub marker : Marker

abbrev pub opened_with : ℕ → Terms → Opened
opened_with n σ = record { number = n; terms = σ; marker = fresh σ }

-- A refused opening gives beside its number a marker with every setting at its least: one flow with rate 1 and depth 1.
abbrev pub opened : Option Refusal → List Flow → Opened
opened none ws = opened_with 0 (terms_of ws)
opened (some r) ws = opened_with (number r) (terms_of (least_flow ∷ []))

abbrev pub opening : List Flow → Opened
opening ws = opened (first_refusal (open_tests ws)) ws
