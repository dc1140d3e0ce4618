-- Each refusal is that of its number, which has two digits at most. Assumes nothing.
use mathlib.Core.Path.{◌≡◌, refl, sym, ap, ◌∙◌}
use mathlib.Core.Option.{some, some-injective}
use Prim.Native.Nat.{◌≤◌}
use native.Mathlib.Omega.{arith}
use Rattle.refusals.specs.declared.Refusal.{Refusal}
use Rattle.refusals.specs.Numbers.{number}
use Rattle.refusals.specs.Named.{named}

pub named_number : (r : Refusal) → named (number r) ≡ some r
named_number Refusal.Length = refl
named_number Refusal.Instant = refl
named_number Refusal.BeforeClock = refl
named_number Refusal.AboveAlpha = refl
named_number Refusal.Overdue = refl
named_number Refusal.RoomFull = refl
named_number Refusal.NumbersUsed = refl
named_number Refusal.Alpha = refl
named_number Refusal.TicksPerByte = refl
named_number Refusal.ImageLength = refl
named_number Refusal.Check = refl
named_number Refusal.Edition = refl
named_number Refusal.RecordCount = refl
named_number Refusal.BlockNumber = refl
named_number Refusal.BlockSettings = refl
named_number Refusal.Kind = refl
named_number Refusal.UnusedBytes = refl
named_number Refusal.ColumnShort = refl
named_number Refusal.ColumnsUnequal = refl
named_number Refusal.EventCount = refl
named_number Refusal.Event = refl
named_number Refusal.ImageShort = refl
named_number Refusal.OutsideArea = refl
named_number Refusal.AnswerShort = refl
named_number Refusal.SpareByte = refl
named_number Refusal.RecordLength = refl
named_number Refusal.RecordPlace = refl
named_number Refusal.RecordInstant = refl
named_number Refusal.Flow = refl
named_number Refusal.Rate = refl
named_number Refusal.Depth = refl

-- A number tells its refusal.
pub number_injective : (q r : Refusal) → number q ≡ number r → q ≡ r
number_injective q r e = some-injective q r (sym (named_number q) ∙ ap named e ∙ named_number r)

pub number_most : (r : Refusal) → number r ≤ 53
number_most Refusal.Length = omega arith
number_most Refusal.Instant = omega arith
number_most Refusal.BeforeClock = omega arith
number_most Refusal.AboveAlpha = omega arith
number_most Refusal.Overdue = omega arith
number_most Refusal.RoomFull = omega arith
number_most Refusal.NumbersUsed = omega arith
number_most Refusal.Alpha = omega arith
number_most Refusal.TicksPerByte = omega arith
number_most Refusal.ImageLength = omega arith
number_most Refusal.Check = omega arith
number_most Refusal.Edition = omega arith
number_most Refusal.RecordCount = omega arith
number_most Refusal.BlockNumber = omega arith
number_most Refusal.BlockSettings = omega arith
number_most Refusal.Kind = omega arith
number_most Refusal.UnusedBytes = omega arith
number_most Refusal.ColumnShort = omega arith
number_most Refusal.ColumnsUnequal = omega arith
number_most Refusal.EventCount = omega arith
number_most Refusal.Event = omega arith
number_most Refusal.ImageShort = omega arith
number_most Refusal.OutsideArea = omega arith
number_most Refusal.AnswerShort = omega arith
number_most Refusal.SpareByte = omega arith
number_most Refusal.RecordLength = omega arith
number_most Refusal.RecordPlace = omega arith
number_most Refusal.RecordInstant = omega arith
number_most Refusal.Flow = omega arith
number_most Refusal.Rate = omega arith
number_most Refusal.Depth = omega arith
