-- Each promise for C hosts leaves one possible answer and one content of what is lent. (The number of a view is given by an equation, the whole run
-- by `OneAnswer` of the crate `run`.) Assumes nothing.
use Rattle.std.specs.Prelude.{◌≡◌, List, ℕ}
use Rattle.room.specs.declared.Room.{Room}
use Rattle.block_columns.specs.Columns.{Columns}
use Rattle.bilgethrum_values.specs.declared.HostSettings.{HostSettings}
use Rattle.bilgethrum_values.specs.declared.HostPacket.{HostPacket}
use Rattle.bilgethrum_values.specs.declared.HostArrival.{HostArrival}
use Rattle.bilgethrum_values.specs.declared.HostDecision.{HostDecision}
use Rattle.bilgethrum_values.specs.declared.HostReading.{HostReading}
use Rattle.bilgethrum_values.specs.declared.HostWriting.{HostWriting}
use Rattle.bilgethrum.specs.Promises.{HostOpens, HostArrives, HostAdvances, HostReads, HostWrites}

abbrev pub OneHostOpening : Type 0
OneHostOpening =
    (asked : HostSettings) (b : Room) (n m : ℕ) (left other : Room) → HostOpens asked b n left → HostOpens asked b m other → (n ≡ m) × (left ≡ other)

abbrev pub OneHostArrival : Type 0
OneHostArrival =
    (b : Room) (p : HostPacket) (x y : HostArrival) (left other : Room) → HostArrives b p x left → HostArrives b p y other → (x ≡ y) × (left ≡ other)

abbrev pub OneHostAdvance : Type 0
OneHostAdvance =
    (b : Room) (at : ℕ) (x y : HostDecision) (left other : Room) → HostAdvances b at x left → HostAdvances b at y other → (x ≡ y) × (left ≡ other)

abbrev pub OneHostReading : Type 0
OneHostReading =
    (image : List ℕ) (c : Columns) (x y : HostReading) (left other : Columns) → HostReads image c x left → HostReads image c y other → (x ≡ y) × (left ≡ other)

abbrev pub OneHostWriting : Type 0
OneHostWriting =
    (asked : HostSettings) (c : Columns) (b : List ℕ) (x y : HostWriting) (left other : List ℕ)
    → HostWrites asked c b x left
    → HostWrites asked c b y other
    → (x ≡ y) × (left ≡ other)
