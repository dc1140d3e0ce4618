-- The number of each refusal, as document 01's table and the requests have it. Assumes nothing.
use Rattle.std.specs.Prelude.{ℕ}
use Rattle.std.proofs.Math.Option.{Option, none, some}
use Rattle.refusals.specs.declared.Refusal.{Refusal}

abbrev pub number : Refusal → ℕ
number Refusal.Length = 1
number Refusal.Instant = 2
number Refusal.BeforeClock = 3
number Refusal.AboveAlpha = 4
number Refusal.Overdue = 5
number Refusal.RoomFull = 6
number Refusal.NumbersUsed = 7
number Refusal.Alpha = 8
number Refusal.TicksPerByte = 9
number Refusal.ImageLength = 11
number Refusal.Check = 12
number Refusal.Edition = 13
number Refusal.RecordCount = 14
number Refusal.BlockNumber = 15
number Refusal.BlockSettings = 16
number Refusal.Kind = 17
number Refusal.UnusedBytes = 19
number Refusal.ColumnShort = 20
number Refusal.ColumnsUnequal = 21
number Refusal.EventCount = 22
number Refusal.Event = 23
number Refusal.ImageShort = 24
number Refusal.OutsideArea = 31
number Refusal.AnswerShort = 32
number Refusal.SpareByte = 41
number Refusal.RecordLength = 42
number Refusal.RecordPlace = 43
number Refusal.RecordInstant = 44
number Refusal.Flow = 51
number Refusal.Rate = 52
number Refusal.Depth = 53

-- A number that an answer has no use for is 0.
abbrev pub number_of : Option Refusal → ℕ
number_of none = 0
number_of (some r) = number r
