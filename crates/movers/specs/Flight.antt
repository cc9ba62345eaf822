-- Sectors that may be moved at once.
use Rattle.std.specs.Prelude.{◌≤◌, ◌<◌, ◌⊎◌, ◌^◌, ℕ, ◌+◌, IsFalse, Option, Some, None}
use Rattle.movers.specs.declared.flight.Flown.{Flown}

-- both read, or their sectors don't meet; and one of them doesn't sync
abbrev pub MayRunBeside : Flown → Flown → Type 0
MayRunBeside one other =
    (IsFalse one.syncs ⊎ IsFalse other.syncs)
    × ((IsFalse one.writes × IsFalse other.writes)
    ⊎ (one.extent.first + one.extent.count ≤ other.extent.first)
    ⊎ (other.extent.first + other.extent.count ≤ one.extent.first))

-- what is moved for a tag, if anything, may run beside these
abbrev pub AllBeside : Flown → Option Flown → Type 0
AllBeside flown None = Unit {0}
AllBeside flown (Some other) = MayRunBeside other flown

-- they end in range
abbrev pub EndsInRange : Option Flown → Type 0
EndsInRange None = Unit {0}
EndsInRange (Some flown) = flown.extent.first + flown.extent.count < 2 ^ 64
