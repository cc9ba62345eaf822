-- What a piece does to a file, and what comes of it.
use Rattle.std.specs.Prelude.{◌≡◌, ◌⊎◌, ◌≤◌, ◌^◌, ℕ, ◌*◌, Bool, true, false, List, [], ◌∷◌, length, Option, Some, None, Result, Ok, Err, IfOk}
use Rattle.sector.specs.declared.Extent.{Extent}
use Rattle.cdb.specs.declared.Cdb.{Cdb}
use Rattle.cdb.specs.declared.Cdb.TheVariants.{Read10, Write10, Sync10, ReadCapacity10, Read16, Write16, Sync16, ReadCapacity16}
use Rattle.srb.specs.declared.Srb.{Srb}
use Rattle.srb.specs.declared.Kind.{Kind}
use Rattle.srb.specs.declared.Kind.TheVariants.{Read, Write, Flush}
use Rattle.srb.specs.declared.Entry.{Entry}
use Rattle.srb.specs.declared.Completion.{Completion}
use Rattle.disk.specs.Medium.{MediumView}
use Rattle.miniport.specs.Faults.{error, invalid_request}
use Rattle.miniport.specs.Checking.{IsRefused, Passes}
use Rattle.file_disk.specs.declared.storage.Failure.{Failure}
use Rattle.file_disk.specs.declared.storage.Failure.TheVariants.{Protected, Full, Failed}
use Rattle.adapter.specs.Booking.{entry_sent}
use Rattle.file_disk.specs.declared.file_disk.Task.{Task}
use Rattle.file_disk.specs.declared.file_disk.Task.TheVariants.{Read as ReadTask, Write as WriteTask, Flush as FlushTask}
use Rattle.file_disk.specs.declared.file_disk.Moved.{Moved}
use Rattle.file_disk.specs.declared.file_disk.Moved.TheVariants.{Read as ReadMoved, Sent}
use Rattle.file_disk.specs.Calls.{Call, WriteAt, Sync, Since, ReadsAll, StopsReading, WritesAll, StopsWriting}

-- what a disk over a storage shows
pub record DiskView : Type 0 where
  -- bytes of a sector
  pub sector_size : ℕ
  -- how many sectors it has
  pub sectors : ℕ
  pub write_protected : Bool
  -- whether the storage had no room for the newest of the writes that it refused
  pub full : Bool
  -- the calls to the storage, the newest first
  pub calls : List Call

-- a disk of the sizes of this medium
abbrev pub disk_over : MediumView → Bool → Bool → List Call → DiskView
disk_over shape write_protected full calls = record {
  sector_size = shape.sector_size;
  sectors = length shape.sectors;
  write_protected = write_protected;
  full = full;
  calls = calls;
}

-- a disk may have these sizes
pub record IsDiskSize (shape : MediumView) : Type 0 where
  pub size : (shape.sector_size ≡ 512) ⊎ (shape.sector_size ≡ 4096)
  pub few : length shape.sectors ≤ 2 ^ 40

-- COMPLETIONS

-- UNRECOVERED READ ERROR
abbrev pub read_fault : Completion
read_fault = error 3 0x11 0x00

-- WRITE PROTECTED, SPACE ALLOCATION FAILED WRITE PROTECT, or WRITE ERROR
abbrev pub write_fault : Failure → Completion
write_fault Protected = error 7 0x27 0x00
write_fault Full = error 7 0x27 0x07
write_fault Failed = error 3 0x0C 0x00

-- HARDWARE ERROR
abbrev pub hardware_fault : Completion
hardware_fault = error 4 0x00 0x00

-- WHAT THE CALLS OF A TASK ARE

-- this many bytes were read from this one on, or a call gave nothing
abbrev pub ReadsBytes : ℕ → ℕ → Result (List ℕ) Completion → List Call → Type 0
ReadsBytes offset count (Ok bytes) calls = (length bytes ≡ count) × ReadsAll offset bytes calls
ReadsBytes offset count (Err completion) calls = (why : Failure) × (completion ≡ read_fault) × StopsReading offset count why calls

-- the storage was synced, or the sync failed
abbrev pub Syncs : {X : Type 0} → Result X Completion → List Call → Type 0
Syncs (Ok x) calls = calls ≡ Sync None ∷ []
Syncs (Err completion) calls = (why : Failure) × (completion ≡ hardware_fault) × (calls ≡ Sync (Some why) ∷ [])

-- these bytes were told from this one on, or a call took nothing
abbrev pub WritesPlainly : {X : Type 0} → ℕ → List ℕ → Result X Completion → List Call → Type 0
WritesPlainly offset bytes (Ok x) calls = WritesAll offset bytes calls
WritesPlainly offset bytes (Err completion) calls = (why : Failure) × (completion ≡ write_fault why) × StopsWriting offset bytes why calls

-- all of these bytes were told, and then a sync came to this
pub record SyncsAfter (offset : ℕ) (bytes : List ℕ) (fault : Option Failure) (calls : List Call) : Type 0 where
  pub told : List Call
  pub after : calls ≡ Sync fault ∷ told
  pub writes : WritesAll offset bytes told

-- these bytes were told and synced, or a call took nothing, or the sync failed
abbrev pub WritesThrough : {X : Type 0} → ℕ → List ℕ → Result X Completion → List Call → Type 0
WritesThrough offset bytes (Ok x) calls = SyncsAfter offset bytes None calls
WritesThrough offset bytes (Err completion) calls =
    ((why : Failure) × (completion ≡ write_fault why) × StopsWriting offset bytes why calls)
    ⊎ ((why : Failure) × (completion ≡ hardware_fault) × SyncsAfter offset bytes (Some why) calls)

-- the calls of a write; with FUA its bytes are synced too
abbrev pub WritesBytes : {X : Type 0} → Bool → ℕ → List ℕ → Result X Completion → List Call → Type 0
WritesBytes false offset bytes result calls = WritesPlainly offset bytes result calls
WritesBytes true offset bytes result calls = WritesThrough offset bytes result calls

-- the calls of a task that is sent with these bytes, from this one on: what it moved, or how it failed
abbrev pub Does : ℕ → List ℕ → Task → Result (List ℕ) Completion → List Call → Type 0
Does offset bytes ReadTask moved calls = ReadsBytes offset (length bytes) moved calls
Does offset bytes (WriteTask through) moved calls = IfOk moved (λ m. m ≡ bytes) × WritesBytes through offset bytes moved calls
Does offset bytes FlushTask moved calls = IfOk moved (λ m. length m ≡ length bytes) × Syncs moved calls

-- what a task moved: the bytes that it read, or those that it was sent with
abbrev pub moved_by : List ℕ → Result (Option (List ℕ)) Completion → Result (List ℕ) Completion
moved_by sent (Ok (Some bytes)) = Ok bytes
moved_by sent (Ok None) = Ok sent
moved_by sent (Err completion) = Err completion

-- a read brings bytes of its own, and no other task does
abbrev pub IsSentOr : Task → Option (List ℕ) → Type 0
IsSentOr ReadTask (Some bytes) = Unit {0}
IsSentOr (WriteTask through) None = Unit {0}
IsSentOr FlushTask None = Unit {0}
IsSentOr _ _ = ⊥

-- there was no memory for the bytes: nothing was called
abbrev pub LacksMemory : Result (List ℕ) Completion → List Call → Type 0
LacksMemory moved calls = (moved ≡ Err hardware_fault) × (calls ≡ [])

-- ROOM

-- whether the storage had no room for the newest of the writes that it refused; before these calls it was so
abbrev pub full_after : Bool → List Call → Bool
full_after was [] = was
full_after was (WriteAt at bytes (Err Full) ∷ calls) = true
full_after was (WriteAt at bytes (Err Protected) ∷ calls) = false
full_after was (_ ∷ calls) = full_after was calls

-- the disk tells of the calls since whether there was room
abbrev pub TellsRoom : DiskView → DiskView → Type 0
TellsRoom old new = Since old.calls new.calls (λ calls. new.full ≡ full_after old.full calls)

-- WHAT A PIECE DOES

-- what a command asks of a file, and of which sectors; a READ CAPACITY asks nothing of it
abbrev pub task_in : Cdb → Option (Task × Extent)
task_in (Read10 lba count fua) = Some (ReadTask, record { first = lba; count = count })
task_in (Write10 lba count fua) = Some (WriteTask fua, record { first = lba; count = count })
task_in (Sync10 lba count) = Some (FlushTask, record { first = lba; count = count })
task_in ReadCapacity10 = None
task_in (Read16 lba count fua) = Some (ReadTask, record { first = lba; count = count })
task_in (Write16 lba count fua) = Some (WriteTask fua, record { first = lba; count = count })
task_in (Sync16 lba count) = Some (FlushTask, record { first = lba; count = count })
task_in (ReadCapacity16 allocation) = None

abbrev pub kind_of : Task → Kind
kind_of ReadTask = Read
kind_of (WriteTask through) = Write
kind_of FlushTask = Flush

-- the entry of a task that moved these bytes, or how it failed
abbrev pub entry_of : ℕ → ℕ → Task → Extent → Result (List ℕ) Completion → Result Entry Completion
entry_of tag piece task extent (Ok bytes) = Ok (record { piece = piece; tag = tag; extent = extent; kind = kind_of task; bytes = bytes })
entry_of tag piece task extent (Err completion) = Err completion

-- what is booked of a piece: the entry that it read, or the entry of what its SRB sends, or how it failed
abbrev pub entry_moved : ℕ → ℕ → Srb → Result Moved Completion → Result Entry Completion
entry_moved tag piece srb (Ok (ReadMoved entry)) = Ok entry
entry_moved tag piece srb (Ok Sent) = Ok (entry_sent tag piece srb)
entry_moved tag piece srb (Err completion) = Err completion

-- the command that the SRB asks for fits no row of the adapter's table
abbrev pub Fits : DiskView → Srb → Cdb → Type 0
Fits disk srb command = Passes (record { sector_size = disk.sector_size; sectors = disk.sectors; write_protected = disk.write_protected }) srb command

-- the first row that fits fails the SRB with this completion
abbrev pub FailsByRow : DiskView → Srb → Completion → Type 0
FailsByRow disk srb completion = IsRefused (record { sector_size = disk.sector_size; sectors = disk.sectors; write_protected = disk.write_protected }) srb completion

-- a task of these sectors was carried out by calls of its own, or a call failed it; only a read may lack memory
abbrev pub Carries : DiskView → Task → Extent → List ℕ → Result (List ℕ) Completion → DiskView → Type 0
Carries old task extent bytes moved new =
    Since old.calls new.calls (λ calls. Does (extent.first * old.sector_size) bytes task moved calls ⊎ ((task ≡ ReadTask) × LacksMemory moved calls))

-- the command that the SRB asks for was carried out
pub record CarriesOut (old : DiskView) (tag piece : ℕ) (srb : Srb) (what : Result Entry Completion) (new : DiskView) : Type 0 where
  pub command : Cdb
  pub task : Task
  pub extent : Extent
  pub moved : Result (List ℕ) Completion
  pub passes : Fits old srb command
  pub asks : task_in command ≡ Some (task, extent)
  pub carries : Carries old task extent srb.data moved new
  pub becomes : what ≡ entry_of tag piece task extent moved
  pub room : TellsRoom old new
  pub after : new ≡ record old { calls = new.calls; full = new.full }

-- the command asks nothing of a file, and fails as an invalid request
pub record AsksNothing (old : DiskView) (srb : Srb) (what : Result Entry Completion) (new : DiskView) : Type 0 where
  pub command : Cdb
  pub passes : Fits old srb command
  pub nothing : task_in command ≡ None
  pub fails : what ≡ Err invalid_request
  pub same : new ≡ old

-- the SRB fails by the first row of the adapter's table that fits, and nothing was called
pub record FailsByTable (old : DiskView) (srb : Srb) (what : Result Entry Completion) (new : DiskView) : Type 0 where
  pub completion : Completion
  pub refused : FailsByRow old srb completion
  pub fails : what ≡ Err completion
  pub same : new ≡ old

abbrev pub Transfers : DiskView → ℕ → ℕ → Srb → Result Entry Completion → DiskView → Type 0
Transfers old tag piece srb what new = CarriesOut old tag piece srb what new ⊎ AsksNothing old srb what new ⊎ FailsByTable old srb what new

-- an entry is of this piece on this tag
abbrev pub IsOfPiece : ℕ → ℕ → Result Entry Completion → Type 0
IsOfPiece tag piece (Ok entry) = (entry.piece ≡ piece) × (entry.tag ≡ tag)
IsOfPiece tag piece (Err completion) = Unit {0}
