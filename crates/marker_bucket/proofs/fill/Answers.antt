-- A long span fills the bucket, and with a short one neither product nor sum wraps.
use Rattle.std.proofs.Common.{arith}
use Rattle.marker_bucket.proofs.Spans.{long_fills, short-small}
use Rattle.marker_bucket.proofs.fill.Goals as goal

pub returns-then-span-gt-TOP_MOST : goal.returns-then-span-gt-TOP_MOST
returns-then-span-gt-TOP_MOST c = long_fills c.args.top c.args.held c.args.rate c.args.span.0 c.requires (omega arith)

pub overflow_mul-rate : goal.overflow_mul-rate
overflow_mul-rate c = omega (arith, short-small c.args.top c.args.held c.args.rate c.args.span.0 c.requires (omega arith))

pub overflow_add-held : goal.overflow_add-held
overflow_add-held c = omega (arith, short-small c.args.top c.args.held c.args.rate c.args.span.0 c.requires (omega arith), c.requires)
