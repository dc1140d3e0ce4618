-- A text that fits, and what an accepted image says of its number of events. Assumes nothing.
use mathlib.Core.Path.{◌≡◌, sym, ap, ◌∙◌}
use mathlib.Core.List.{List}
use Prim.Native.Nat.{ℕ, ◌*◌, ◌/◌, ◌≤◌}
use native.Mathlib.Nat.{zero-add}
use native.Mathlib.Omega.{arith}
use lib.ListN.{length}
use Rattle.std.specs.Prelude.{Result, Ok}
use borrow.Author.Tests.{le-leb}
use Rattle.block_image.specs.declared.Trace.{Trace}
use Rattle.block_image.specs.declared.ImageRefusal.{ImageRefusal}
use Rattle.block_image.specs.Image.{judged}
use Rattle.block_image.proofs.Accepted.{whole, count_most}
use Rattle.text_lines.specs.Told.{Told}
use Rattle.run.specs.Ran.{Tells}

-- A text that was told where it fits.
pub tells : {text before after : List ℕ} {p : ℕ} → length text ≤ length before → Told before 0 text after p → Tells text before after (Ok p)
tells {text} {before} {after} {p} h t =
    record {
      result = rw (le-leb (length text) (length before) h) (ap Ok (t.place ∙ zero-add (length text)));
      area = rw (le-leb (length text) (length before) h) (t.stored (rw (zero-add (length text)) h));
    }

-- What an accepted image says of its number of events.
pub events_few : (image : List ℕ) (x : Result Trace ImageRefusal) (t : Trace) → x ≡ judged image → x ≡ Ok t
    → (t.events ≤ 31 * (length image / 512)) × (t.events ≤ 1984)
events_few image x t h k =
    let w = whole image t.settings t.events (sym h ∙ k) in
    let most = count_most image t.settings t.events w in
    (most, omega (arith, w.few_blocks))
