-- A view whose number is 0 lies in its area. Assumes nothing.
use mathlib.Core.Path.{◌≡◌}
use mathlib.Core.List.{List}
use Prim.Native.Nat.{ℕ, ◌+◌, ◌≤◌}
use lib.ListN.{length}
use borrow.Author.Tests.{ltb-false}
use Rattle.refusals.specs.Numbers.{number_of}
use Rattle.refusals.specs.First.{first_refusal}
use Rattle.refusals.proofs.Laws.{passes, number-none}
use Rattle.payload.specs.Part.{view_tests}

pub within : (area : List ℕ) (len place : ℕ) → number_of (first_refusal (view_tests area len place)) ≡ 0 → place + len ≤ length area
within area len place h = ltb-false _ _ (passes (view_tests area len place) (number-none (first_refusal (view_tests area len place)) h)).1.0
