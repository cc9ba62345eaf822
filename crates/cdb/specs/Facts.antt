-- What a command says of its blocks and its data.
use Rattle.std.specs.Prelude.{ℕ, ◌*◌, Bool, true, false}
use Rattle.cdb.specs.declared.Cdb.{Cdb}
use Rattle.cdb.specs.declared.Cdb.TheVariants.{Read10, Write10, Sync10, ReadCapacity10, Read16, Write16, Sync16, ReadCapacity16}
use Rattle.cdb.specs.declared.Direction.{Direction}
use Rattle.cdb.specs.declared.Direction.TheVariants.{DataIn, DataOut, NoData}

-- the first block that a command names, and how many
abbrev pub lba_of : Cdb → ℕ
lba_of (Read10 lba count fua) = lba
lba_of (Write10 lba count fua) = lba
lba_of (Sync10 lba blocks) = lba
lba_of ReadCapacity10 = 0
lba_of (Read16 lba count fua) = lba
lba_of (Write16 lba count fua) = lba
lba_of (Sync16 lba blocks) = lba
lba_of (ReadCapacity16 allocation) = 0

abbrev pub blocks_of : Cdb → ℕ
blocks_of (Read10 lba count fua) = count
blocks_of (Write10 lba count fua) = count
blocks_of (Sync10 lba blocks) = blocks
blocks_of ReadCapacity10 = 0
blocks_of (Read16 lba count fua) = count
blocks_of (Write16 lba count fua) = count
blocks_of (Sync16 lba blocks) = blocks
blocks_of (ReadCapacity16 allocation) = 0

-- which way a command's data go: to the host, to the disk, or neither
abbrev pub direction_of : Cdb → Direction
direction_of (Read10 lba count fua) = DataIn
direction_of (Write10 lba count fua) = DataOut
direction_of (Sync10 lba blocks) = NoData
direction_of ReadCapacity10 = DataIn
direction_of (Read16 lba count fua) = DataIn
direction_of (Write16 lba count fua) = DataOut
direction_of (Sync16 lba blocks) = NoData
direction_of (ReadCapacity16 allocation) = DataIn

abbrev pub is_out : Direction → Bool
is_out DataIn = false
is_out DataOut = true
is_out NoData = false

-- how many bytes of data a command moves, on a disk whose blocks have this many bytes
abbrev pub bytes_of : ℕ → Cdb → ℕ
bytes_of size (Read10 lba count fua) = count * size
bytes_of size (Write10 lba count fua) = count * size
bytes_of size (Sync10 lba blocks) = 0
bytes_of size ReadCapacity10 = 8
bytes_of size (Read16 lba count fua) = count * size
bytes_of size (Write16 lba count fua) = count * size
bytes_of size (Sync16 lba blocks) = 0
bytes_of size (ReadCapacity16 allocation) = allocation
