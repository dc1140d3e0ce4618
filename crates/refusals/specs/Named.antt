-- The refusal of a number: no two have the same. Assumes nothing.
use Rattle.std.specs.Prelude.{List, [], ◌∷◌, ℕ, eqb}
use Rattle.std.proofs.Math.Option.{Option, none}
use Rattle.refusals.specs.declared.Refusal.{Refusal}
use Rattle.refusals.specs.First.{or_else}
use Rattle.refusals.specs.Numbers.{number}

-- The table's refusals, in its order.
abbrev pub all : List Refusal
all =
    Refusal.Length ∷
    Refusal.Instant ∷
    Refusal.BeforeClock ∷
    Refusal.AboveAlpha ∷
    Refusal.Overdue ∷
    Refusal.RoomFull ∷
    Refusal.NumbersUsed ∷
    Refusal.Alpha ∷
    Refusal.TicksPerByte ∷
    Refusal.ImageLength ∷
    Refusal.Check ∷
    Refusal.Edition ∷
    Refusal.RecordCount ∷
    Refusal.BlockNumber ∷
    Refusal.BlockSettings ∷
    Refusal.Kind ∷
    Refusal.UnusedBytes ∷
    Refusal.ColumnShort ∷
    Refusal.ColumnsUnequal ∷
    Refusal.EventCount ∷
    Refusal.Event ∷
    Refusal.ImageShort ∷
    Refusal.OutsideArea ∷
    Refusal.AnswerShort ∷
    Refusal.SpareByte ∷
    Refusal.RecordLength ∷
    Refusal.RecordPlace ∷
    Refusal.RecordInstant ∷
    Refusal.Flow ∷
    Refusal.Rate ∷
    Refusal.Depth ∷ []

abbrev pub named_in : List Refusal → ℕ → Option Refusal
named_in [] n = none
named_in (r ∷ rs) n = or_else (eqb (number r) n) r (named_in rs n)

abbrev pub named : ℕ → Option Refusal
named n = named_in all n
