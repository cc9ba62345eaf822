-- What a told capacity is, and how the question for it fails.
use Rattle.std.specs.Prelude.{◌≡◌, ◌<◌, ℕ, ◌+◌, ◌-◌, ◌^◌, min}
use Rattle.std.specs.Prelude.{length}
use Rattle.ntstatus.specs.declared.NtStatus.{NtStatus}
use Rattle.adapter.specs.View.{AdapterView}
use Rattle.probe.specs.declared.ProbeFault.{ProbeFault}
use Rattle.probe.specs.declared.ProbeFault.TheVariants.{Device as DeviceFault, Mbr as TableFault, NoMemory}
use Rattle.probe.specs.declared.capacity.Capacity.{Capacity}
use Rattle.probe.specs.Exchange.{IsOfFailure}
use Rattle.probe.specs.Capacity.{MissesCapacity, LacksCapacity}

-- what READ CAPACITY(10) tells of the sizes: at most 2^32 sectors, a number that stands for more too
pub record IsToldShort (disk : AdapterView) (capacity : Capacity) : Type 0 where
  pub sectors : capacity.sectors ≡ min (length disk.sectors - 1) (2 ^ 32 - 1) + 1
  pub sector_size : capacity.sector_size ≡ disk.sector_size

-- the sizes of a disk
pub record IsCapacityOf (disk : AdapterView) (capacity : Capacity) : Type 0 where
  pub sectors : capacity.sectors ≡ length disk.sectors
  pub sector_size : capacity.sector_size ≡ disk.sector_size

-- a command that asks for the capacity failed with this status
pub record FailsCapacity (disk : AdapterView) (status : NtStatus) (after : AdapterView) : Type 0 where
  pub failure : IsOfFailure status
  pub counted : disk.failures < after.failures
  pub misses : MissesCapacity disk failure.completion after

-- why the capacity is not known: a command failed, or was not sent
abbrev pub IsCapacityFault : AdapterView → ProbeFault → AdapterView → Type 0
IsCapacityFault disk (DeviceFault status) after = FailsCapacity disk status after
IsCapacityFault disk (TableFault fault) after = ⊥
IsCapacityFault disk NoMemory after = LacksCapacity disk after
