-- How a volume is opened.
use Rattle.std.specs.Prelude.{◌≡◌, ◌<◌, ◌≤◌, ◌⊎◌, ℕ, List, Some, length, IsTrue}
use Rattle.sector.specs.declared.Extent.{Extent}
use Rattle.adapter.specs.View.{AdapterView}
use Rattle.probe.specs.Exchange.{IsSameDisk}
use Rattle.probe.specs.Probing.{HasPartitions, IsReadBy, asked_by_probe}
use Rattle.compose.specs.declared.Settings.{Settings}
use Rattle.compose.specs.Opening.{IsSpent}
use Rattle.io_manager.specs.declared.Handle.{Handle}
use Rattle.io_manager.specs.declared.Refusal.{Refusal}
use Rattle.io_manager.specs.declared.Refusal.TheVariants.{InvalidParameter, DeviceBusy}
use Rattle.io_manager.specs.Shown.{ManagerView}
use Rattle.io_manager.specs.Calls.{are_used_up, handle_limit, partition_of}
use Rattle.volume.specs.declared.OpenFault.{OpenFault}
use Rattle.volume.specs.declared.OpenFault.TheVariants.{Start, Refused as RefusedOpen}
use Rattle.volume.specs.Shown.{Content, extent_at, handle_count, parted_at}

-- no handle is left: 64 are open, or their numbers are used up
abbrev pub LacksHandle : ManagerView → Type 0
LacksHandle v = IsTrue (are_used_up v.next_handle) ⊎ (handle_limit ≤ handle_count v)

-- why a volume could not be opened: there is no such partition, or no handle is left
abbrev pub IsOpenRefusal : ManagerView → ℕ → Refusal → Type 0
IsOpenRefusal v p InvalidParameter = length v.rules.partitions ≤ p
IsOpenRefusal v p DeviceBusy = LacksHandle v
IsOpenRefusal v p _ = ⊥

-- the handle is open on this partition
pub record IsOn (v : ManagerView) (handle : Handle) (p : ℕ) : Type 0 where
  pub is_open : partition_of v.handles handle ≡ Some p
  pub known : p < length v.rules.partitions

-- the bytes of a disk, parted at the partition that its table tells under this number
pub record ShowsDisk (disk : AdapterView) (p : ℕ) (shown : Content) : Type 0 where
  pub partitions : List Extent
  pub told : HasPartitions disk partitions
  pub content : shown ≡ parted_at disk.sector_size disk.sectors (extent_at partitions p)

-- the disk has no partition of this number
abbrev pub IsRefusedOf : AdapterView → ℕ → Refusal → Type 0
IsRefusedOf disk p InvalidParameter = (partitions : List Extent) × HasPartitions disk partitions × (length partitions ≤ p)
IsRefusedOf disk p _ = ⊥

-- why no volume could be opened over this disk, and what is left of it: no stack could be started, or one was, and its
-- partition was refused
abbrev pub IsOpenFault : AdapterView → Settings → ℕ → OpenFault → AdapterView → Type 0
IsOpenFault disk settings p (Start fault) after = IsSpent disk settings fault after
IsOpenFault disk settings p (RefusedOpen reason) after =
    IsRefusedOf disk p reason × IsSameDisk (asked_by_probe disk) disk after × IsReadBy disk after
