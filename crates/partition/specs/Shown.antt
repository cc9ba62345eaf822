-- What the partition driver shows: the machine of the disk below, with one array a partition.
use Rattle.std.specs.Prelude.{ℕ, ◌-◌, ◌*◌, List, Option, Some, map, length, take}
use Rattle.sector.specs.declared.Extent.{Extent}
use Rattle.machine.specs.declared.Request.{Request}
use Rattle.machine.specs.declared.ClientRequest.{ClientRequest}
use Rattle.machine.specs.Rules.{Rules}
use Rattle.machine.specs.State.{OpenRequest, State}
use Rattle.machine.specs.Sending.{array_at}
use Rattle.sector.specs.Extents.{sectors_in}
use Rattle.device.specs.View.{Packet, DeviceView}
use Rattle.partition.specs.inside.Noted.{asked}
use Rattle.partition.specs.OnDisk.{rules_over}
use Rattle.partition.specs.inside.Rooms.{Wanted, with_rooms}

-- a request of the disk as the partition's client called it: its packet notes the partition, and the sector there
abbrev pub called : Rules → Request → ClientRequest → ClientRequest
called rules noted q = record q { partition = Some noted.volume; offset = noted.extent.first * rules.sector_size }

-- an open request of the disk as its partition's client called it
abbrev pub as_called : Rules → List Packet → OpenRequest → OpenRequest
as_called rules packets o = record o { request = called rules (asked packets o.number) o.request }

-- the sectors of the disk
abbrev pub disk_of : State → List (List ℕ)
disk_of s = array_at s.arrays 0

-- the machine of the disk, with the partitions' arrays and their requests
abbrev pub on_partitions : Rules → List Packet → State → State
on_partitions rules packets s = record s {
  arrays = map (sectors_in (disk_of s)) rules.partitions;
  requests = map (as_called rules packets) s.requests;
}

-- a packet as the layer above has it: without the partition driver's own location
abbrev pub packet_above : Packet → Packet
packet_above packet = record packet { above = take (length packet.above - 1) packet.above }

-- the partitions' machine over a disk that shows v, with the rooms of the disk
abbrev pub view_of : List Extent → DeviceView → DeviceView
view_of table v = record v {
  rules = rules_over table v.rules;
  state = on_partitions (rules_over table v.rules) v.packets v.state;
  packets = map packet_above v.packets;
}

-- all that the partition driver shows: each room is for the request that its spot is wanted for, and there is room for
-- these spots beside that of the disk
abbrev pub shown_of : List Extent → Wanted → DeviceView → DeviceView
shown_of table wanted v = with_rooms wanted (view_of table v)
