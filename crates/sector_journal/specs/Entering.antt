-- What an act does to the sectors, and its entry.
use Rattle.std.specs.Prelude.{◌≡◌, ◌≤◌, ℕ, ◌+◌, Bool, List, length, Option, Some, None, Result, Ok, Err}
use Rattle.sector.specs.declared.Extent.{Extent}
use Rattle.cdb.specs.declared.Cdb.{Cdb}
use Rattle.cdb.specs.declared.Cdb.TheVariants.{Read10, Write10, Sync10, ReadCapacity10, Read16, Write16, Sync16, ReadCapacity16}
use Rattle.cdb.specs.declared.CdbFault.{CdbFault}
use Rattle.cdb.specs.Meaning.{Means}
use Rattle.srb.specs.declared.Srb.{Srb}
use Rattle.srb.specs.declared.Kind.{Kind}
use Rattle.srb.specs.declared.Kind.TheVariants.{Read, Write, Flush}
use Rattle.srb.specs.declared.Entry.{Entry}
use Rattle.srb.specs.declared.Completion.{Completion}
use Rattle.srb.specs.declared.Class.TheVariants.{Bad}
use Rattle.srb.specs.Fate.{class_of}
use Rattle.adapter.specs.Booking.{IsOfSrb}
use Rattle.disk.specs.Medium.{MediumView}
use Rattle.miniport.specs.declared.carrying.Outcome.{Outcome}
use Rattle.miniport.specs.declared.carrying.Outcome.TheVariants.{Moved, Failed}
use Rattle.miniport.specs.Carrying.{disk_of, with_data}
use Rattle.miniport.specs.Faults.{Decodes, fault_of}
use Rattle.srb.specs.Replaying.{ReplaysKind}

-- the kind and the extent that a command names
abbrev pub named : Cdb → Option (Kind × Extent)
named (Read10 lba count fua) = Some (Read, record { first = lba; count = count })
named (Write10 lba count fua) = Some (Write, record { first = lba; count = count })
named (Sync10 lba count) = Some (Flush, record { first = lba; count = count })
named ReadCapacity10 = None
named (Read16 lba count fua) = Some (Read, record { first = lba; count = count })
named (Write16 lba count fua) = Some (Write, record { first = lba; count = count })
named (Sync16 lba count) = Some (Flush, record { first = lba; count = count })
named (ReadCapacity16 allocation) = None

-- a block asks for a transfer or a flush of this kind and extent
abbrev pub Names : List ℕ → Kind × Extent → Type 0
Names block what = (command : Cdb) × Means block command × (named command ≡ Some what)

-- what came of a piece, in the words of the adapter in memory
abbrev pub outcome_of : Srb → Result (List ℕ) Completion → Outcome
outcome_of srb (Ok bytes) = Moved (with_data bytes srb)
outcome_of srb (Err completion) = Failed srb completion

-- the SRB's command fits no row of the table by which a disk fails commands
pub record FitsNoRow (medium : MediumView) (write_protected : Bool) (srb : Srb) : Type 0 where
  pub command : Cdb
  pub means : Means srb.block command
  pub no_fault : fault_of (disk_of medium write_protected) srb (Ok command) ≡ None

-- the first row that fits fails the SRB's command with this completion
pub record FailsByRow (medium : MediumView) (write_protected : Bool) (srb : Srb) (completion : Completion) : Type 0 where
  pub decoded : Result Cdb CdbFault
  pub decodes : Decodes srb.block decoded
  pub fault : fault_of (disk_of medium write_protected) srb decoded ≡ Some completion

-- the piece acted: its entry is of what the SRB asks for, and replays what became of the sectors
pub record Enters (old : MediumView) (write_protected : Bool) (tag piece : ℕ) (srb : Srb) (entry : Entry) (new : MediumView) : Type 0 where
  pub no_row : FitsNoRow old write_protected srb
  pub is_piece : entry.piece ≡ piece
  pub is_tag : entry.tag ≡ tag
  pub of_srb : IsOfSrb old.sector_size (length old.sectors) srb entry
  pub replays : ReplaysKind old.sector_size old.sectors entry.extent entry.bytes entry.kind new.sectors
  pub as_many : length new.sectors ≡ length old.sectors
  pub after : new ≡ record old { sectors = new.sectors }

-- the piece failed, and no sector changed
pub record Refuses (old : MediumView) (write_protected : Bool) (srb : Srb) (completion : Completion) (new : MediumView) : Type 0 where
  pub by_row : FailsByRow old write_protected srb completion
  pub is_bad : class_of completion ≡ Bad completion
  pub counted : new.failures ≤ old.failures + 1
  pub after : new ≡ record old { failures = new.failures }
