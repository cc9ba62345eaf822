-- What the partition driver keeps.
use Rattle.std.specs.Prelude.{◌≡◌, ◌<◌, ℕ, Bool, true, List, [], ◌∷◌, ◌++◌, Option, Some, length, All}
use Rattle.sector.specs.declared.Extent.{Extent}
use Rattle.irp.specs.declared.StackLocation.{StackLocation}
use Rattle.irp.specs.Climb.{asks}
use Rattle.machine.specs.declared.Request.{Request}
use Rattle.machine.specs.Rules.{Rules, place_count, as_client}
use Rattle.machine.specs.State.{OpenRequest}
use Rattle.machine.specs.Pieces.{ArePlaced}
use Rattle.machine.specs.Map.{IsMap}
use Rattle.device.specs.View.{Packet, DeviceView, Reserved, IsBounded, IsOrderly, room_at}
use Rattle.partition.specs.inside.Noted.{asked, noted_last}
use Rattle.partition.specs.OnDisk.{rules_over, on_disk}
use Rattle.partition.specs.inside.Rooms.{Wanted, wanted_at}
use Rattle.partition.specs.Shown.{shown_of}
use Rattle.partition.specs.Opening.{IsWholeDisk}

-- the last location of a packet below is the partition driver's, and asks for its completion routine at any outcome
pub record ComesBack (packet : Packet) : Type 0 where
  pub higher : List StackLocation
  pub own : StackLocation
  pub is_last : packet.above ≡ higher ++ own ∷ []
  pub always : (success cancelled : Bool) → asks success cancelled own ≡ true

-- an open request of the disk is the one that its packet notes, which lies in its partition
pub record LiesInside (rules : Rules) (packets : List Packet) (o : OpenRequest) : Type 0 where
  pub bounded : IsBounded rules (asked packets o.number)
  pub is_asked : o.request ≡ as_client rules (on_disk rules (asked packets o.number)) o.request.bytes
  pub all_places : length o.marks ≡ place_count rules o.request

-- the whole disk is below, with the partitions on it, and its packets and open requests are the partition driver's
pub record IsOnDisk (table : List Extent) (v : DeviceView) : Type 0 where
  pub whole : IsWholeDisk v.rules
  pub partitions : IsMap v.rules.disk_sectors table
  pub packets : All ComesBack v.packets
  pub requests : All (LiesInside (rules_over table v.rules) v.packets) v.state.requests
  -- each piece has places of an open request, so it moves sectors of its partition
  pub placed : ArePlaced v.state

-- a spot that is reserved below is wanted for a request of a partition, and reserved for that request on the disk
pub record IsWantedFor (rules : Rules) (wanted : Option Request) (reserved : Reserved) : Type 0 where
  pub request : Request
  pub is_wanted : wanted ≡ Some request
  pub bounded : IsBounded rules request
  pub is_below : reserved.request ≡ on_disk rules request

-- a packet that is below notes what its spot is wanted for
abbrev pub IsNotedAt : Wanted → Packet → Type 0
IsNotedAt wanted packet = wanted_at wanted packet.spot ≡ Some (noted_last packet.above)

-- what holds between calls
pub record IsKept (locations_below : ℕ) (table : List Extent) (wanted : Wanted)
    (v : DeviceView) : Type 0 where
  pub on_disk : IsOnDisk table v
  -- a packet gets a stack location for the layer below
  pub some_location : 0 < locations_below
  pub below : IsOrderly v
  pub rooms : (spot : ℕ) (reserved : Reserved) → room_at v.rooms spot ≡ Some reserved
      → IsWantedFor (rules_over table v.rules) (wanted_at wanted spot) reserved
  pub noted : All (IsNotedAt wanted) v.packets
  pub orderly : IsOrderly (shown_of table wanted v)
