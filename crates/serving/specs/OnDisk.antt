-- A session over a disk in a storage.
use Rattle.std.specs.Prelude.{◌≡◌, ◌≢◌, ◌<◌, ◌≤◌, ◌⊎◌, ℕ, ◌+◌, ◌*◌, Bool, false, IsFalse}
use Rattle.std.specs.Prelude.{List, [], ◌∷◌, ◌++◌, get_or, length, map, take, Option, Some, Result, Ok, Err}
use Rattle.sector.specs.declared.Extent.{Extent}
use Rattle.settings.specs.declared.Config.{Config}
use Rattle.settings.specs.declared.Partition.{Partition}
use Rattle.settings.specs.Medium.{extent_of, extents_of, table_sector}
use Rattle.mbr.specs.declared.MbrFault.{MbrFault}
use Rattle.mbr.specs.Faults.{told_by}
use Rattle.machine.specs.declared.Label.{Label}
use Rattle.adapter.specs.View.{AdapterView}
use Rattle.miniport.specs.Apart.{apart as shown_apart, IsNewBooked}
use Rattle.miniport.specs.Memory.{MemView}
use Rattle.io_manager.specs.Shown.{ManagerView}
use Rattle.compose.specs.declared.StartFault.{StartFault}
use Rattle.compose.specs.Opening.{IsFirstView, IsSpent}
use Rattle.startup.specs.declared.faults.Error.TheVariants.{Start}
use Rattle.startup.specs.Started.{limits_of, rules_over}
use Rattle.volume.specs.Opening.{IsOn}
use Rattle.volume.specs.Shown.{extent_at}
use Rattle.nbd.specs.declared.End.{End}
use Rattle.nbd.specs.Over.{IsSessionOver}
use Rattle.file_disk.specs.declared.storage.Failure.{Failure}
use Rattle.file_disk.specs.Calls.{Call, ReadsAll, Since, StopsReading, StopsWriting}
use Rattle.file_disk.specs.Transfers.{SyncsAfter}
use Rattle.serving.specs.declared.faults.Difference.{Difference}
use Rattle.serving.specs.declared.faults.Difference.TheVariants.{BadTable, Count, Partition as Differing}
use Rattle.serving.specs.declared.faults.Error.{Error}
use Rattle.serving.specs.declared.faults.Error.TheVariants.{Startup, NoPartition, Disk, NoMemory}
use Rattle.serving.specs.declared.faults.DiskFault.TheVariants.{NotCreated, Unreadable, OtherTable, HasFaults}
use Rattle.serving.specs.Carried.{IsTold, StandsIn}
use Rattle.serving.specs.Filed.{CarriesBy, FiledView}
use Rattle.serving.specs.Serving.{fault_of_end}

-- THE TABLE IS PUT

-- the newest call took none of what was left of these bytes, or it was the sync behind all of them, and failed
abbrev pub StopsPutting : List ℕ → Failure → List Call → Type 0
StopsPutting bytes why calls = StopsWriting 0 bytes why calls ⊎ SyncsAfter 0 bytes (Some why) calls

-- why the table of these settings was not put, and what was called for it
abbrev pub IsPutFault : Config → List Call → Error → List Call → Type 0
-- memory was refused, and nothing was called
IsPutFault c before NoMemory after = after ≡ before
-- a call failed, and none was made behind it
IsPutFault c before (Disk NotCreated) after = (why : Failure) × Since before after (StopsPutting (table_sector c) why)
IsPutFault c before _ after = ⊥

-- THE TABLE IS READ

-- sector 0 was read, which gives the partitions of the settings, and nothing was written
pub record ReadsTable (c : Config) (before after : List Call) : Type 0 where
  pub table : List ℕ
  pub long : length table ≡ c.sector_size
  pub reads : Since before after (ReadsAll 0 table)
  pub told : told_by c.sectors table ≡ Ok (extents_of c)

-- of a table's extents and the partitions that are wanted, those of this number are the first that differ
pub record IsFirstOther (found : List Extent) (wanted : List Partition) (number : ℕ) (this that : Extent) : Type 0 where
  pub same : take number found ≡ map extent_of (take number wanted)
  pub found_is : take (number + 1) found ≡ take number found ++ (this ∷ [])
  pub wanted_is : map extent_of (take (number + 1) wanted) ≡ map extent_of (take number wanted) ++ (that ∷ [])
  pub other : this ≢ that

-- how a table's extents differ from the partitions that are wanted
abbrev pub DiffersFrom : List Extent → List Partition → Difference → Type 0
DiffersFrom found wanted (BadTable fault) = ⊥
DiffersFrom found wanted (Count these those) = (these ≡ length found) × (those ≡ length wanted) × (these ≢ those)
DiffersFrom found wanted (Differing number this that) = IsFirstOther found wanted number this that

-- how what a table tells differs from the partitions that are wanted
abbrev pub Differs : Result (List Extent) MbrFault → List Partition → Difference → Type 0
Differs (Ok found) wanted difference = DiffersFrom found wanted difference
Differs (Err fault) wanted difference = difference ≡ BadTable fault

-- sector 0 was read, which gives other partitions than the settings, or none
pub record ReadsOtherTable (c : Config) (difference : Difference) (before after : List Call) : Type 0 where
  pub table : List ℕ
  pub long : length table ≡ c.sector_size
  pub reads : Since before after (ReadsAll 0 table)
  pub other : told_by c.sectors table ≢ Ok (extents_of c)
  pub differs : Differs (told_by c.sectors table) c.partitions.items difference

-- why sector 0 does not give the partitions of the settings, and what was called
abbrev pub IsTableFault : Config → List Call → Error → List Call → Type 0
-- memory was refused, and nothing was called
IsTableFault c before NoMemory after = after ≡ before
-- a call of the read gave nothing, and none was made behind it
IsTableFault c before (Disk Unreadable) after = (why : Failure) × Since before after (StopsReading 0 c.sector_size why)
IsTableFault c before (Disk (OtherTable difference)) after = ReadsOtherTable c difference before after
IsTableFault c before _ after = ⊥

-- A STACK IS STARTED

-- a stack before its first event, over an adapter of the settings' sizes that holds no sectors but this first one and
-- keeps the bytes of labels or not
pub record IsStartedOver (keeps : Bool) (c : Config) (first_sector : List ℕ) (stack : ManagerView) : Type 0 where
  pub disk : AdapterView
  pub first : IsFirstView disk (limits_of c) stack
  pub apart : IsFalse disk.faithful
  pub kept : disk.keeps_bytes ≡ keeps
  pub sector_size : disk.sector_size ≡ c.sector_size
  pub sectors : length disk.sectors ≡ c.sectors
  pub max_transfer : disk.max_transfer ≡ c.max_transfer
  pub depth : disk.depth ≡ c.depth
  pub begins : get_or disk.sectors 0 [] ≡ first_sector

-- no stack could be started over such an adapter, for this reason
pub record HasNoStack (c : Config) (first_sector : List ℕ) (fault : StartFault) : Type 0 where
  pub adapter : MemView
  pub new : IsNewBooked first_sector c.sectors c.max_transfer c.depth adapter
  pub after : AdapterView
  pub spent : IsSpent (shown_apart adapter.shown) (limits_of c) fault after

-- why there is no such stack: memory was refused, or it could not be started
abbrev pub IsNotStarted : Config → List ℕ → Error → Type 0
IsNotStarted c first_sector NoMemory = Unit {0}
IsNotStarted c first_sector (Startup (Start fault)) = HasNoStack c first_sector fault
IsNotStarted c first_sector _ = ⊥

-- A PARTITION IS OPENED

-- the settings have neither bad sectors nor rules
abbrev pub HasNoFaults : Config → Type 0
HasNoFaults c = (c.bad_sectors.items ≡ []) × (c.faults.items ≡ [])

-- a partition of these settings, over a storage of which just its partition table was read. Labels keep their bytes, or not
pub record IsOpenedFor (keeps : Bool) (c : Config) (p : ℕ) (calls : List Call) (filed : FiledView) : Type 0 where
  pub no_faults : HasNoFaults c
  pub table : ReadsTable c calls filed.carried.disk.calls
  pub block : filed.sizes.block ≡ c.sector_size
  -- clients are told of write protection
  pub write_protected : filed.carried.disk.write_protected ≡ c.write_protected
  pub told : filed.sizes.read_only ≡ c.write_protected
  -- the stack's partitions, sizes and limits are those of the settings; the handle is on this partition
  pub rules : filed.carried.stack.rules ≡ rules_over false keeps c
  pub on : IsOn filed.carried.stack filed.handle p
  pub bytes : filed.sizes.bytes ≡ (extent_at (extents_of c) p).count * c.sector_size
  -- what is told of the stack from here on is told of a run from its start, in which nothing acted
  pub arrays : List (List (List ℕ))
  pub trace : List Label
  pub begins : IsTold arrays trace [] filed.carried.stack
  -- nor was anything called
  pub none_called : trace ≡ []
  -- the storage is as large as the stack's disk
  pub stands : StandsIn filed.carried.stack filed.carried.disk

-- such a partition, whose labels keep no bytes
abbrev pub IsOpened : Config → ℕ → List Call → FiledView → Type 0
IsOpened c p calls filed = IsOpenedFor false c p calls filed

-- the settings have no faults, and have this partition
abbrev pub AreServable : Config → ℕ → Type 0
AreServable c p = HasNoFaults c × (p < length (extents_of c))

-- sector 0 was read, and no stack could be started over it
pub record StopsStarting (c : Config) (before : List Call) (fault : StartFault) (after : List Call) : Type 0 where
  pub read : ReadsTable c before after
  pub stops : HasNoStack c read.table fault

-- why a partition of these settings could not be opened, and what was called of the storage
abbrev pub IsOpenFault : Config → ℕ → List Call → Error → List Call → Type 0
-- there are faults
IsOpenFault c p before (Disk HasFaults) after = (¬ HasNoFaults c) × (after ≡ before)
-- there are none, and no such partition
IsOpenFault c p before NoPartition after = HasNoFaults c × (length (extents_of c) ≤ p) × (after ≡ before)
-- a call of the table's read gave nothing
IsOpenFault c p before (Disk Unreadable) after = AreServable c p × IsTableFault c before (Disk Unreadable) after
-- the table was read, and is another
IsOpenFault c p before (Disk (OtherTable difference)) after = AreServable c p × ReadsOtherTable c difference before after
-- the table was read, and no stack could be started
IsOpenFault c p before (Startup (Start fault)) after = AreServable c p × StopsStarting c before fault after
-- memory was refused elsewhere, before the table was read or after it
IsOpenFault c p before NoMemory after = AreServable c p × ((after ≡ before) ⊎ ReadsTable c before after)
IsOpenFault c p before _ after = ⊥

-- a session, and what is told at its end
pub record IsFileSession (old : FiledView) (input out : Option (List ℕ)) (told : Option Error) (new : FiledView) (after : Option (List ℕ)) : Type 0 where
  pub end : End
  pub told_is : told ≡ fault_of_end end
  pub session : IsSessionOver CarriesBy old.sizes old input out end new after
