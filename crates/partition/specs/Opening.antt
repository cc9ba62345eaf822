-- A partition driver of which nothing was asked yet.
use Rattle.std.specs.Prelude.{◌≡◌, List, [], ◌∷◌, map}
use Rattle.sector.specs.declared.Extent.{Extent}
use Rattle.machine.specs.Rules.{Rules}
use Rattle.machine.specs.State.{opening}
use Rattle.machine.specs.Map.{IsMap}
use Rattle.sector.specs.Extents.{sectors_in}
use Rattle.device.specs.View.{DeviceView}
use Rattle.partition.specs.OnDisk.{rules_over}

-- the device has one volume, which is the whole disk
abbrev pub IsWholeDisk : Rules → Type 0
IsWholeDisk rules = rules.partitions ≡ record { first = 0; count = rules.disk_sectors } ∷ []

-- a disk of which nothing was asked yet, with these partitions on it
pub record IsFreshDisk (table : List Extent) (v : DeviceView) : Type 0 where
  pub whole : IsWholeDisk v.rules
  pub partitions : IsMap v.rules.disk_sectors table
  pub state : v.state ≡ opening (map (sectors_in v.adapter.sectors) v.rules.partitions)
  pub packets : v.packets ≡ []
  pub rooms : v.rooms ≡ []

-- what the partition driver shows over it: the machine's opening, with the sectors of the partitions
abbrev pub opening_view : List Extent → DeviceView → DeviceView
opening_view table v = record v {
  rules = rules_over table v.rules;
  state = opening (map (sectors_in v.adapter.sectors) table);
}
