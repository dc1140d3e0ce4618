-- One flow's bucket: what it holds, how it fills, and what a packet takes from it. Assumes nothing.
use Rattle.std.specs.Prelude.{Bool, true, false, ℕ, ◌+◌, ◌*◌, ◌-◌, min, leb}
use Rattle.marker_flows.specs.declared.Flow.{Flow}

-- A bucket's content is counted in millionths of a byte: of these a rate in bytes per 1,000,000 ticks fills in a whole number each tick.
abbrev pub million : ℕ
million = 1_000_000

-- What the bucket held when it was last looked at, and when that was.
pub record Bucket : Type 0 where
  pub held : ℕ
  pub looked : ℕ

-- The depth, in millionths of a byte.
abbrev pub top_of : Flow → ℕ
top_of w = million * w.depth

-- Every bucket is full at opening.
abbrev pub full : Flow → Bucket
full w = record { held = top_of w; looked = 0 }

-- What a bucket holds after a span: the smaller of its depth and what it held plus rate times span.
abbrev pub filled_to : (top held rate span : ℕ) → ℕ
filled_to top held rate span = min top (held + rate * span)

-- What it holds at t.
abbrev pub level_of : Flow → Bucket → (t : ℕ) → ℕ
level_of w b t = filled_to (top_of w) b.held w.rate (t - b.looked)

-- It holds a packet's whole length then.
abbrev pub holds : Flow → Bucket → (len t : ℕ) → Bool
holds w b len t = leb (million * len) (level_of w b t)

-- The packet is left unmarked and paid for, or it is marked and nothing is taken.
abbrev pub taken_by : (unmarked : Bool) → (level len t : ℕ) → Bucket
taken_by true level len t = record { held = level - million * len; looked = t }
taken_by false level len t = record { held = level; looked = t }

-- The bucket once a packet has come.
abbrev pub bucket_then : Flow → Bucket → (len t : ℕ) → Bucket
bucket_then w b len t = taken_by (holds w b len t) (level_of w b t) len t
