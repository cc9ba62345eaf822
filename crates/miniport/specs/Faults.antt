-- Which commands an adapter in memory fails, and with which completion.
use Rattle.std.specs.Prelude.{ℕ, ◌+◌, ◌==◌, ◌&&◌, Bool, true, false, not, nat_le, nat_lt, List, [], ◌∷◌, length, Option, Some, None, Result, Ok, Err, MatchResult, if◌then◌else◌}
use Rattle.std.specs.List.{list_any}
use Rattle.cdb.specs.declared.Cdb.{Cdb}
use Rattle.cdb.specs.declared.Cdb.TheVariants.{Read10, Write10, Sync10, ReadCapacity10, Read16, Write16, Sync16, ReadCapacity16}
use Rattle.cdb.specs.declared.CdbFault.{CdbFault}
use Rattle.cdb.specs.declared.CdbFault.TheVariants.{ShortCdb, UnknownOpcode, InvalidField}
use Rattle.cdb.specs.declared.Direction.{Direction}
use Rattle.cdb.specs.declared.Direction.TheVariants.{DataIn, DataOut, NoData}
use Rattle.cdb.specs.Meaning.{Means}
pub use Rattle.cdb.specs.Facts.{lba_of, blocks_of, bytes_of, direction_of, is_out}
use Rattle.cdb.specs.Faults.{HasFault}
use Rattle.ntstatus.specs.First.{when, first_some}
use Rattle.srb.specs.declared.Srb.{Srb}
use Rattle.srb.specs.declared.Completion.{Completion}
use Rattle.srb.specs.declared.SrbFunction.{SrbFunction}
use Rattle.srb.specs.declared.SrbFunction.TheVariants.{ExecuteScsi, AbortCommand, ResetBus}

-- COMPLETIONS

abbrev pub without_sense : ℕ → ℕ → Completion
without_sense srb_status scsi_status = record { srb_status = srb_status; scsi_status = scsi_status; sense = None }

-- SUCCESS with GOOD
abbrev pub success : Completion
success = without_sense 0x01 0x00

-- BUSY with BUSY
abbrev pub busy : Completion
busy = without_sense 0x05 0x08

abbrev pub invalid_request : Completion
invalid_request = without_sense 0x06 0x00

abbrev pub bus_reset : Completion
bus_reset = without_sense 0x0E 0x00

-- ERROR with AUTOSENSE_VALID and CHECK CONDITION
abbrev pub error : ℕ → ℕ → ℕ → Completion
error key asc ascq = record { srb_status = 0x84; scsi_status = 0x02; sense = Some (record { key = key; asc = asc; ascq = ascq }) }

-- WHAT DECIDES

-- the disk that carries commands out
pub record Disk : Type 0 where
  pub sector_size : ℕ
  -- how many sectors it has
  pub sectors : ℕ
  -- the numbers of the bad sectors
  pub bad : List ℕ
  pub write_protected : Bool

-- what a block asks for, or why it asks for nothing
abbrev pub Decodes : List ℕ → Result Cdb CdbFault → Type 0
Decodes block decoded = MatchResult decoded (Means block) (HasFault block)

abbrev pub is_execute : SrbFunction → Bool
is_execute ExecuteScsi = true
is_execute AbortCommand = false
is_execute ResetBus = false

-- the SRB's flags for a direction: DATA_IN, DATA_OUT or none
abbrev pub flags_for : Direction → ℕ
flags_for DataIn = 0x40
flags_for DataOut = 0x80
flags_for NoData = 0

abbrev pub flags_of : Cdb → ℕ
flags_of command = flags_for (direction_of command)

abbrev pub is_read : Cdb → Bool
is_read (Read10 lba count fua) = true
is_read (Write10 lba count fua) = false
is_read (Sync10 lba blocks) = false
is_read ReadCapacity10 = false
is_read (Read16 lba count fua) = true
is_read (Write16 lba count fua) = false
is_read (Sync16 lba blocks) = false
is_read (ReadCapacity16 allocation) = false

abbrev pub is_write : Cdb → Bool
is_write command = is_out (direction_of command)

abbrev pub is_past_end : Disk → Cdb → Bool
is_past_end disk command = nat_lt disk.sectors (lba_of command + blocks_of command)

-- the flags and the length of the data are the command's
abbrev pub fits : Disk → Srb → Cdb → Bool
fits disk srb command = (srb.flags.0 == flags_of command) && (length srb.data == bytes_of disk.sector_size command)

abbrev pub is_one_of : ℕ → ℕ → ℕ → Bool
is_one_of first count sector = nat_le first sector && nat_lt sector (first + count)

-- a sector that the command names is bad
abbrev pub names_bad : Disk → Cdb → Bool
names_bad disk command = list_any (is_one_of (lba_of command) (blocks_of command)) disk.bad

-- THE TABLE

abbrev pub fault_of_block : CdbFault → Completion
fault_of_block ShortCdb = error 5 0x24 0x00
fault_of_block InvalidField = error 5 0x24 0x00
fault_of_block UnknownOpcode = error 5 0x20 0x00

-- the completion of a transfer with a bad sector
abbrev pub fault_of_medium : Disk → Cdb → Option Completion
fault_of_medium disk command = first_some (
    when (is_read command && names_bad disk command) (error 3 0x11 0x00)
    ∷ when (is_write command && names_bad disk command) (error 3 0x0C 0x00)
    ∷ [])

abbrev pub fault_of_command : Disk → Srb → Cdb → Option Completion
fault_of_command disk srb command = first_some (
    when (is_past_end disk command) (error 5 0x21 0x00)
    ∷ when (not (fits disk srb command)) invalid_request
    ∷ when (is_write command && disk.write_protected) (error 7 0x27 0x00)
    ∷ fault_of_medium disk command
    ∷ [])

abbrev pub fault_of_decoded : Disk → Srb → Result Cdb CdbFault → Option Completion
fault_of_decoded disk srb (Ok command) = fault_of_command disk srb command
fault_of_decoded disk srb (Err fault) = Some (fault_of_block fault)

-- the completion with which an SRB fails, by what its block asks for; None where its command is carried out
abbrev pub fault_of : Disk → Srb → Result Cdb CdbFault → Option Completion
fault_of disk srb decoded = if is_execute srb.function then fault_of_decoded disk srb decoded else Some invalid_request
