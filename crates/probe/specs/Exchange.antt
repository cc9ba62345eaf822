-- A command sent to an adapter that has no other, what it brings, and its way back.
use Rattle.std.specs.Prelude.{◌≡◌, ◌≤◌, ℕ, ◌+◌, ◌*◌, List, [], ◌∷◌, None, length}
use Rattle.ntstatus.specs.declared.NtStatus.{NtStatus}
use Rattle.ntstatus.specs.Table.{status_of}
use Rattle.cdb.specs.declared.Cdb.{Cdb}
use Rattle.cdb.specs.declared.Cdb.TheVariants.{Read10, Write10, Sync10, ReadCapacity10, Read16, Write16, Sync16}
use Rattle.cdb.specs.declared.Cdb.TheVariants.{ReadCapacity16}
use Rattle.cdb.specs.Meaning.{IsPlain, Means}
use Rattle.srb.specs.declared.Srb.{Srb}
use Rattle.srb.specs.declared.SrbFunction.TheVariants.{ExecuteScsi}
use Rattle.srb.specs.declared.DeviceLabel.{DeviceLabel}
use Rattle.srb.specs.declared.DeviceLabel.TheVariants.{Start, Act, Fault, Return}
use Rattle.srb.specs.declared.Completion.{Completion}
use Rattle.srb.specs.declared.Class.{Class}
use Rattle.srb.specs.declared.Class.TheVariants.{Bad}
use Rattle.srb.specs.Fate.{class_of}
use Rattle.adapter.specs.View.{AdapterView, Accepts, MovesByAll}

-- an adapter with nothing on its tags, whose labels were all taken
pub record IsIdle (view : AdapterView) : Type 0 where
  pub no_tags : view.tags ≡ []
  pub no_labels : view.labels ≡ []

-- WHAT A COMMAND BRINGS

-- how many bytes a command brings: eight of READ CAPACITY(10), as many as are asked for of READ CAPACITY(16), the
-- sectors of a read
abbrev pub brought_length : AdapterView → Cdb → ℕ
brought_length disk (Read10 lba count fua) = count * disk.sector_size
brought_length disk (Write10 lba count fua) = 0
brought_length disk (Sync10 lba blocks) = 0
brought_length disk ReadCapacity10 = 8
brought_length disk (Read16 lba count fua) = count * disk.sector_size
brought_length disk (Write16 lba count fua) = 0
brought_length disk (Sync16 lba blocks) = 0
brought_length disk (ReadCapacity16 allocation) = allocation

-- ITS WAY

-- an SRB with no sense that asks for a command whose data come in, in the one block that is spelled so: EXECUTE_SCSI
-- with DATA_IN
pub record IsReading (command : Cdb) (srb : Srb) : Type 0 where
  pub function : srb.function ≡ ExecuteScsi
  pub flags : srb.flags.0 ≡ 0x40
  pub asks : Means srb.block command
  pub plain : IsPlain srb.block command
  pub sense : srb.sense ≡ None

-- an SRB of the command has a buffer of the length that the command brings, and room for a label of it
pub record LooksBy (disk : AdapterView) (command : Cdb) (srb : Srb) : Type 0 where
  pub reading : IsReading command srb
  pub data_length : length srb.data ≡ brought_length disk command
  pub label_length : brought_length disk command ≤ srb.for_label

-- the label of an act or a fault of the piece of this number
abbrev pub IsActOrFault : ℕ → DeviceLabel → Type 0
IsActOrFault number (Act piece bytes) = piece ≡ number
IsActOrFault number (Fault piece) = piece ≡ number
IsActOrFault number (Start piece tag block) = ⊥
IsActOrFault number (Return piece class) = ⊥

-- the adapter moves by these labels, which are then taken from its record
pub record AdapterMoves (old : AdapterView) (labels : List DeviceLabel) (new : AdapterView) : Type 0 where
  pub moved : AdapterView
  pub moves : MovesByAll old labels moved
  pub taken : new ≡ record moved { labels = [] }

-- the command went as piece 0 on tag 0, which acted or faulted and came back in this class; all labels were then taken
pub record Exchanges (old : AdapterView) (command : Cdb) (class : Class) (new : AdapterView) : Type 0 where
  pub srb : Srb
  pub accepted : AdapterView
  pub told : DeviceLabel
  pub looks : LooksBy old command srb
  pub accepts : Accepts old 0 0 srb accepted
  pub acts : IsActOrFault 0 told
  pub moves : AdapterMoves accepted (told ∷ Return 0 class ∷ []) new

-- the disk is as it was, with nothing on its tags, after at most this many pieces more
pub record IsSameDisk (asked : ℕ) (old new : AdapterView) : Type 0 where
  pub sector_size : new.sector_size ≡ old.sector_size
  pub sectors : new.sectors ≡ old.sectors
  pub faithful : new.faithful ≡ old.faithful
  pub keeps_bytes : new.keeps_bytes ≡ old.keeps_bytes
  pub max_transfer : new.max_transfer ≡ old.max_transfer
  pub depth : new.depth ≡ old.depth
  pub idle : IsIdle new
  pub accepted : new.accepted ≤ old.accepted + asked
  pub failures : old.failures ≤ new.failures

-- WHY IT LED NO FURTHER

-- the status of a completion that is neither good nor busy
pub record IsOfFailure (status : NtStatus) : Type 0 where
  pub completion : Completion
  pub is_bad : class_of completion ≡ Bad completion
  pub means : status ≡ status_of completion.srb_status completion.scsi_status completion.sense
