-- What a piece asks for, and the piece as C is told it.
use Rattle.std.specs.Prelude.{◌≡◌, ℕ, ◌-◌, ◌%◌, ◌/◌, ◌^◌, Bool, false, List, drop, length, replicate, take, Option, Some, None, if◌then◌else◌}
use Rattle.cdb.specs.declared.Cdb.{Cdb}
use Rattle.cdb.specs.declared.Cdb.TheVariants.{Read10, Write10, Sync10, ReadCapacity10, Read16, Write16, Sync16, ReadCapacity16}
use Rattle.cdb.specs.declared.CdbFault.{CdbFault}
use Rattle.cdb.specs.Faults.{HasFault}
use Rattle.cdb.specs.Meaning.{Means}
use Rattle.srb.specs.declared.Kind.{Kind}
use Rattle.srb.specs.declared.Kind.TheVariants.{Read, Write, Flush}
use Rattle.srb.specs.declared.Srb.{Srb}
use Rattle.saddlemug.specs.declared.asked.Asked.{Asked}
use Rattle.saddlemug.specs.declared.asked.StackAsked.{StackAsked}
use Rattle.saddlemug.specs.declared.asked.StackArmed.{StackArmed}
use Rattle.saddlemug.specs.Stacks.{kind_number}

-- what is asked for: this many sectors of the disk from this one on
abbrev pub to_move : Kind → ℕ → ℕ → Bool → Asked
to_move kind first count through = record { kind = kind; extent = record { first = first; count = count }; through = through }

-- what a command asks to move; a READ CAPACITY asks to move nothing
abbrev pub asked_by : Cdb → Option Asked
asked_by (Read10 lba count fua) = Some (to_move Read lba count fua)
asked_by (Write10 lba count fua) = Some (to_move Write lba count fua)
asked_by (Sync10 lba count) = Some (to_move Flush lba count false)
asked_by ReadCapacity10 = None
asked_by (Read16 lba count fua) = Some (to_move Read lba count fua)
asked_by (Write16 lba count fua) = Some (to_move Write lba count fua)
asked_by (Sync16 lba count) = Some (to_move Flush lba count false)
asked_by (ReadCapacity16 allocation) = None

abbrev pub shown_asked : Option Asked → StackAsked
shown_asked None = record { kind = 3; through = 0; first = 0; count = 0 }
shown_asked (Some a) = record { kind = kind_number a.kind; through = if a.through then 1 else 0; first = a.extent.first; count = a.extent.count }

-- C was told of a piece with this SRB
pub record IsToldOf (piece : ℕ) (srb : Srb) (told : StackArmed) : Type 0 where
  pub low : told.piece_low ≡ piece % 2 ^ 64
  pub high : told.piece_high ≡ piece / 2 ^ 64
  -- what its command block asks for
  pub asked : (command : Cdb) → Means srb.block command → told.asked ≡ shown_asked (asked_by command)
  -- a block with a fault asks to move nothing
  pub faulty : (fault : CdbFault) → HasFault srb.block fault → told.asked ≡ shown_asked None
  pub many : told.length ≡ length srb.data
  pub block_length : told.block_length ≡ length srb.block
  pub block : take (length srb.block) told.block ≡ srb.block
  pub behind : drop (length srb.block) told.block ≡ replicate (16 - length srb.block) 0
