-- The sizes of a disk, and the commands that ask for them.
use Rattle.std.specs.Prelude.{◌≡◌, ◌⊎◌, ℕ, ◌^◌, Bool, true, false, nat_le, IsTrue, if◌then◌else◌}
use Rattle.std.specs.Prelude.{length}
use Rattle.cdb.specs.declared.Cdb.{Cdb}
use Rattle.cdb.specs.declared.Cdb.TheVariants.{ReadCapacity10, ReadCapacity16}
use Rattle.srb.specs.declared.Completion.{Completion}
use Rattle.srb.specs.declared.Class.TheVariants.{Good, Bad}
use Rattle.adapter.specs.View.{AdapterView}
use Rattle.probe.specs.Exchange.{Exchanges}

-- the disk has more sectors than READ CAPACITY(10) can tell of
abbrev pub is_long : AdapterView → Bool
is_long disk = nat_le (2 ^ 32) (length disk.sectors)

-- READ CAPACITY(16) with room for all that it tells
abbrev pub long_capacity : Cdb
long_capacity = ReadCapacity16 32

-- the number of commands that ask for the capacity: one, and one more where that can't tell it
abbrev pub asked_for_capacity : AdapterView → ℕ
asked_for_capacity disk = if is_long disk then 2 else 1

-- the commands that ask for the capacity came back good: the first, and the second where the disk is long
abbrev pub TellsCapacity : Bool → AdapterView → AdapterView → Type 0
TellsCapacity false disk after = Exchanges disk ReadCapacity10 Good after
TellsCapacity true disk after =
    (between : AdapterView) × Exchanges disk ReadCapacity10 Good between × Exchanges between long_capacity Good after

-- the first command for the capacity was good, and the second came back bad
abbrev pub MissesLong : AdapterView → Completion → AdapterView → Type 0
MissesLong disk completion after =
    (between : AdapterView) × Exchanges disk ReadCapacity10 Good between
    × Exchanges between long_capacity (Bad completion) after

-- a command for the capacity came back bad: the first, or the second, which only a long disk is asked
abbrev pub MissesCapacity : AdapterView → Completion → AdapterView → Type 0
MissesCapacity disk completion after =
    Exchanges disk ReadCapacity10 (Bad completion) after ⊎ (IsTrue (is_long disk) × MissesLong disk completion after)

-- memory was refused for a command for the capacity: the first, or the second of a long disk after the first was good
abbrev pub LacksCapacity : AdapterView → AdapterView → Type 0
LacksCapacity disk after = (after ≡ disk) ⊎ (IsTrue (is_long disk) × Exchanges disk ReadCapacity10 Good after)
