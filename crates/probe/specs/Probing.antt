-- What a probe finds of a disk, and why it finds nothing.
use Rattle.std.specs.Prelude.{◌≡◌, ◌<◌, ◌⊎◌, ℕ, ◌+◌, false, List, [], Result, Ok, Err, length, get_or}
use Rattle.ntstatus.specs.declared.NtStatus.{NtStatus}
use Rattle.sector.specs.declared.Extent.{Extent}
use Rattle.machine.specs.Map.{IsMap}
use Rattle.cdb.specs.declared.Cdb.{Cdb}
use Rattle.cdb.specs.declared.Cdb.TheVariants.{Read10}
use Rattle.srb.specs.declared.Completion.{Completion}
use Rattle.srb.specs.declared.Class.TheVariants.{Good, Bad}
use Rattle.adapter.specs.View.{AdapterView}
use Rattle.mbr.specs.declared.MbrFault.{MbrFault}
use Rattle.mbr.specs.Faults.{told_by}
use Rattle.probe.specs.declared.Probed.{Probed}
use Rattle.probe.specs.declared.ProbeFault.{ProbeFault}
use Rattle.probe.specs.declared.ProbeFault.TheVariants.{Device as DeviceFault, Mbr as TableFault, NoMemory}
use Rattle.probe.specs.Exchange.{Exchanges, IsOfFailure}
use Rattle.probe.specs.inside.Exchange.{Fails}
use Rattle.probe.specs.Capacity.{is_long, asked_for_capacity, TellsCapacity, MissesCapacity, LacksCapacity}

-- the first sector of a disk, where the partition table stands
abbrev pub sector_zero : AdapterView → List ℕ
sector_zero disk = get_or disk.sectors 0 []

-- what the table says: the partitions of its used entries in table order, or what is wrong with it
abbrev pub told_partitions : AdapterView → Result (List Extent) MbrFault
told_partitions disk = told_by (length disk.sectors) (sector_zero disk)

-- the last command of a probe: a read of sector 0
abbrev pub table_read : Cdb
table_read = Read10 0 1 false

-- the number of commands that a probe sends: two, or three to a long disk
abbrev pub asked_by_probe : AdapterView → ℕ
asked_by_probe disk = asked_for_capacity disk + 1

-- all commands of a probe came back good
pub record IsReadBy (disk after : AdapterView) : Type 0 where
  pub between : AdapterView
  pub capacity : TellsCapacity (is_long disk) disk between
  pub table : Exchanges between table_read Good after

-- the partitions that the table says, which are a map of the disk
pub record HasPartitions (disk : AdapterView) (partitions : List Extent) : Type 0 where
  pub told : told_partitions disk ≡ Ok partitions
  pub is_map : IsMap (length disk.sectors) partitions

-- the sizes of the disk in bytes a sector and in sectors, and its partitions
pub record IsProbed (disk : AdapterView) (probed : Probed) : Type 0 where
  pub sector_size : probed.sector_size ≡ disk.sector_size
  pub sectors : probed.sectors ≡ length disk.sectors
  pub partitions : HasPartitions disk probed.partitions.items

-- the last command came back bad, after those that ask for the capacity were good
abbrev pub MissesTable : AdapterView → Completion → AdapterView → Type 0
MissesTable disk completion after =
    (between : AdapterView) × TellsCapacity (is_long disk) disk between
    × Exchanges between table_read (Bad completion) after

-- a command of a probe failed with this status: one that asks for the capacity, or the last
pub record FailsOne (disk : AdapterView) (status : NtStatus) (after : AdapterView) : Type 0 where
  pub failure : IsOfFailure status
  pub counted : disk.failures < after.failures
  pub one_of : MissesCapacity disk failure.completion after ⊎ MissesTable disk failure.completion after

-- why there is no table: its read failed, it was read and is wrong, or memory was refused and its read was not sent
abbrev pub IsTableFault : AdapterView → ProbeFault → AdapterView → Type 0
IsTableFault disk (DeviceFault status) after = Fails disk table_read status after
IsTableFault disk (TableFault fault) after = Exchanges disk table_read Good after × (told_partitions disk ≡ Err fault)
IsTableFault disk NoMemory after = after ≡ disk

-- memory was refused for a command of a probe; those before it came back good
abbrev pub LacksMemory : AdapterView → AdapterView → Type 0
LacksMemory disk after = LacksCapacity disk after ⊎ TellsCapacity (is_long disk) disk after

-- why a probe found nothing: a command failed, all were good and the table is wrong, or memory was refused
abbrev pub IsProbeFault : AdapterView → ProbeFault → AdapterView → Type 0
IsProbeFault disk (DeviceFault status) after = FailsOne disk status after
IsProbeFault disk (TableFault fault) after = IsReadBy disk after × (told_partitions disk ≡ Err fault)
IsProbeFault disk NoMemory after = LacksMemory disk after
