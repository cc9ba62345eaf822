-- How one command goes to an adapter and comes back.
use Rattle.std.specs.Prelude.{◌≡◌, ◌<◌, ℕ, ◌+◌, List, [], slice_range}
use Rattle.std.specs.List.{concat}
use Rattle.ntstatus.specs.declared.NtStatus.{NtStatus}
use Rattle.cdb.specs.declared.Cdb.{Cdb}
use Rattle.cdb.specs.declared.Cdb.TheVariants.{Read10, Write10, Sync10, ReadCapacity10, Read16, Write16, Sync16}
use Rattle.cdb.specs.declared.Cdb.TheVariants.{ReadCapacity16}
use Rattle.srb.specs.declared.Srb.{Srb}
use Rattle.srb.specs.declared.Completion.{Completion}
use Rattle.srb.specs.declared.Class.{Class}
use Rattle.srb.specs.declared.Class.TheVariants.{Good, Busy, Bad}
use Rattle.srb.specs.Fate.{class_of}
use Rattle.adapter.specs.View.{AdapterView}
use Rattle.adapter.specs.Performing.{capacity_data, long_capacity_data}
use Rattle.probe.specs.declared.ProbeFault.{ProbeFault}
use Rattle.probe.specs.declared.ProbeFault.TheVariants.{Device as DeviceFault, Mbr as TableFault, NoMemory}
use Rattle.probe.specs.Exchange.{Exchanges, IsSameDisk, IsOfFailure}

-- a command that changes no sector
abbrev pub Looks : Cdb → Type 0
Looks (Read10 lba count fua) = Unit {0}
Looks (Write10 lba count fua) = ⊥
Looks (Sync10 lba blocks) = Unit {0}
Looks ReadCapacity10 = Unit {0}
Looks (Read16 lba count fua) = Unit {0}
Looks (Write16 lba count fua) = ⊥
Looks (Sync16 lba blocks) = Unit {0}
Looks (ReadCapacity16 allocation) = Unit {0}

-- the bytes that a command brings from the disk; none for a write or a flush
abbrev pub bytes_brought : AdapterView → Cdb → List ℕ
bytes_brought disk (Read10 lba count fua) = concat (slice_range disk.sectors lba (lba + count))
bytes_brought disk (Write10 lba count fua) = []
bytes_brought disk (Sync10 lba blocks) = []
bytes_brought disk ReadCapacity10 = capacity_data disk.sector_size disk.sectors
bytes_brought disk (Read16 lba count fua) = concat (slice_range disk.sectors lba (lba + count))
bytes_brought disk (Write16 lba count fua) = []
bytes_brought disk (Sync16 lba blocks) = []
bytes_brought disk (ReadCapacity16 allocation) = long_capacity_data allocation disk.sector_size disk.sectors

-- what a command brought that came back in this class
abbrev pub Brings : AdapterView → Cdb → List ℕ → Class → AdapterView → Type 0
Brings old command bytes Good new = bytes ≡ bytes_brought old command
Brings old command bytes Busy new = ⊥
Brings old command bytes (Bad completion) new = old.failures < new.failures

-- a command was sent to an idle adapter, and came back
pub record AsksOnce (old : AdapterView) (command : Cdb) (srb : Srb) (completion : Completion)
    (new : AdapterView) : Type 0 where
  pub same : IsSameDisk 1 old (record new { labels = [] })
  pub brings : Brings old command srb.data (class_of completion) new
  pub exchanged : Exchanges old command (class_of completion) (record new { labels = [] })

-- a command came back bad, as a completion of this status, and the adapter counted a failure
pub record Fails (disk : AdapterView) (command : Cdb) (status : NtStatus) (after : AdapterView) : Type 0 where
  pub failure : IsOfFailure status
  pub counted : disk.failures < after.failures
  pub exchanged : Exchanges disk command (Bad failure.completion) after

-- why a command brought nothing: it failed, or memory was refused and it was not sent
abbrev pub IsAskFault : Cdb → AdapterView → ProbeFault → AdapterView → Type 0
IsAskFault command disk (DeviceFault status) after = Fails disk command status after
IsAskFault command disk (TableFault fault) after = ⊥
IsAskFault command disk NoMemory after = after ≡ disk
