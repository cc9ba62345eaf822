-- A disk in memory as C tells it.
use Rattle.std.specs.Prelude.{◌≡◌, ◌⊎◌, ◌≤◌, ℕ, nat_le, nat_lt, Bool, IsTrue, List, [], map, take}
use Rattle.std.specs.List.{list_all}
use Rattle.ntstatus.specs.declared.NtStatus.{NtStatus}
use Rattle.ntstatus.specs.declared.NtStatus.TheVariants.{InsufficientResources, InvalidParameter}
use Rattle.io_manager.specs.Shown.{ManagerView}
use Rattle.settings.specs.declared.Config.{Config}
use Rattle.settings.specs.declared.Partition.{Partition}
use Rattle.settings.specs.InRange.{IsFrom}
use Rattle.volume.specs.Shown.{VolumeView}
use Rattle.saddlemug.specs.declared.memory_disk.MemoryDisk.{MemoryDisk}
use Rattle.saddlemug.specs.declared.memory_disk.MemoryPartition.{MemoryPartition}
use Rattle.saddlemug.specs.Opened.{IsOpenStatus, IsStackBy, IsStartStatus, IsUnopened, IsVolumeBy}

-- the partitions that are told
abbrev pub told : MemoryDisk → List MemoryPartition
told d = take d.partition_count d.partitions

abbrev pub partition_of : MemoryPartition → Partition
partition_of p = record { kind = p.kind; first = p.first; count = p.count }

-- its type marks the entry of a partition as used
abbrev pub is_used : MemoryPartition → Bool
is_used p = nat_le 1 p.kind

-- each number is in its range, as those of a text have to be
pub record IsInRange (d : MemoryDisk) : Type 0 where
  pub sector_size : (d.sector_size ≡ 512) ⊎ (d.sector_size ≡ 4096)
  pub sectors : IsFrom 1 1099511627776 d.sectors
  pub max_transfer : IsFrom 1 65536 d.max_transfer
  pub depth : IsFrom 1 32 d.depth
  pub window : IsFrom 1 64 d.window
  pub open_requests : IsFrom 1 64 d.open_requests
  pub few_partitions : d.partition_count ≤ 4

-- so are the bad sectors and the types of the partitions
pub record IsDisk (d : MemoryDisk) (bad : List ℕ) : Type 0 where
  pub in_range : IsInRange d
  pub bad_sectors : IsTrue (list_all (λ sector. nat_lt sector d.sectors) bad)
  pub partitions : IsTrue (list_all is_used (told d))

-- the settings of a disk, with these bad sectors
pub record AreTold (d : MemoryDisk) (bad : List ℕ) (c : Config) : Type 0 where
  pub sector_size : c.sector_size ≡ d.sector_size
  pub sectors : c.sectors ≡ d.sectors
  pub max_transfer : c.max_transfer ≡ d.max_transfer
  pub depth : c.depth ≡ d.depth
  pub window : c.window ≡ d.window
  pub open_requests : c.open_requests ≡ d.open_requests
  pub write_protected : c.write_protected ≡ d.write_protected
  pub bad_sectors : c.bad_sectors.items ≡ bad
  pub no_rules : c.faults.items ≡ []
  pub partitions : c.partitions.items ≡ map partition_of (told d)

abbrev pub IsToldVolume : MemoryDisk → List ℕ → ℕ → VolumeView → Type 0
IsToldVolume d bad partition v = IsVolumeBy (AreTold d bad) partition v

abbrev pub IsToldStack : MemoryDisk → List ℕ → ManagerView → Type 0
IsToldStack d bad v = IsStackBy (AreTold d bad) v

-- why there are no settings: memory was refused, or a number is out of its range
abbrev pub IsDiskStatus : MemoryDisk → List ℕ → NtStatus → Type 0
IsDiskStatus d bad status = (status ≡ InsufficientResources) ⊎ ((status ≡ InvalidParameter) × (¬ (IsDisk d bad)))

abbrev pub IsToldVolumeStatus : MemoryDisk → List ℕ → ℕ → NtStatus → Type 0
IsToldVolumeStatus d bad partition status = IsUnopened (IsDiskStatus d bad) (AreTold d bad) (λ config. IsOpenStatus config partition) status

abbrev pub IsToldStackStatus : MemoryDisk → List ℕ → NtStatus → Type 0
IsToldStackStatus d bad status = IsUnopened (IsDiskStatus d bad) (AreTold d bad) IsStartStatus status
