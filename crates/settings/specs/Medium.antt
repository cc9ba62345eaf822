-- The disk in memory and the adapter that settings give, before anything was asked of them.
use Rattle.std.specs.Prelude.{◌≡◌, ◌↔◌, ℕ, ◌-◌, true, Contains, None, List, [], ◌∷◌, ◌++◌, length, map, replicate}
use Rattle.sector.specs.declared.Extent.{Extent}
use Rattle.disk.specs.Medium.{MediumView}
use Rattle.miniport.specs.Memory.{MemView}
use Rattle.machine.specs.Map.{IsPartition}
use Rattle.sector.specs.Extents.{sectors_in}
use Rattle.mbr.specs.Table.{Entry, table_bytes}
use Rattle.settings.specs.declared.Config.{Config}
use Rattle.settings.specs.declared.Partition.{Partition}

-- the sectors of a partition
abbrev pub extent_of : Partition → Extent
extent_of p = record { first = p.first; count = p.count }

-- its entry in the partition table
abbrev pub entry_of : Partition → Entry
entry_of p = (p.kind, extent_of p)

-- the sectors of each partition of the settings, in order
abbrev pub extents_of : Config → List Extent
extents_of c = map extent_of c.partitions.items

-- their entries
abbrev pub entries_of : Config → List Entry
entries_of c = map entry_of c.partitions.items

-- sectors of zeros
abbrev pub zeros : Config → ℕ → List (List ℕ)
zeros c count = replicate count (replicate c.sector_size 0)

-- sector 0: the partition table, and zeros to the end of the sector
abbrev pub table_sector : Config → List ℕ
table_sector c = table_bytes (entries_of c) ++ replicate (c.sector_size - 512) 0

-- the disk: sector 0, and zeros behind it
abbrev pub disk_of : Config → List (List ℕ)
disk_of c = table_sector c ∷ zeros c (c.sectors - 1)

-- whatever is a partition of a disk of these sectors has zeros alone
abbrev pub HasBlankPartitions : Config → List (List ℕ) → Type 0
HasBlankPartitions c sectors = (extent : Extent) → IsPartition c.sectors extent → sectors_in sectors extent ≡ zeros c extent.count

-- the disk before anything was asked
pub record IsNewDisk (c : Config) (medium : MediumView) : Type 0 where
  pub sector_size : medium.sector_size ≡ c.sector_size
  pub sectors : medium.sectors ≡ disk_of c
  pub bad : (sector : ℕ) → Contains medium.bad sector ↔ Contains c.bad_sectors.items sector
  pub none_failed : medium.failures ≡ 0

-- the adapter over it, with nothing on its tags
pub record IsNewAdapter (c : Config) (view : MemView) : Type 0 where
  pub sector_size : view.shown.sector_size ≡ c.sector_size
  pub sectors : view.shown.sectors ≡ disk_of c
  pub count : length view.shown.sectors ≡ c.sectors
  pub faithful : view.shown.faithful ≡ true
  pub max_transfer : view.shown.max_transfer ≡ c.max_transfer
  pub depth : view.shown.depth ≡ c.depth
  pub no_tags : view.shown.tags ≡ []
  pub no_labels : view.shown.labels ≡ []
  pub none_accepted : view.shown.accepted ≡ 0
  pub bad : (sector : ℕ) → Contains view.bad sector ↔ Contains c.bad_sectors.items sector
  pub write_protected : view.write_protected ≡ c.write_protected
  -- no piece would come back of any tag
  pub none_due : view.due ≡ replicate c.depth None
