-- A packet on its way down, and one that ended here.
use Rattle.std.specs.Prelude.{◌≡◌, ◌+◌, ◌==◌, false, List, [], ◌∷◌, ◌++◌, length}
use Rattle.ntstatus.specs.declared.NtStatus.{NtStatus}
use Rattle.irp.specs.declared.Driver.TheVariants.{Class}
use Rattle.irp.specs.declared.Irp.{Irp}
use Rattle.irp.specs.declared.MajorFunction.{MajorFunction}
use Rattle.irp.specs.declared.MajorFunction.TheVariants.{Create, Close, InternalDeviceControl, FlushBuffers, Cleanup}
use Rattle.irp.specs.declared.MajorFunction.TheVariants.{Pnp, Read as MajorRead, Write as MajorWrite}
use Rattle.irp.specs.declared.StackLocation.{StackLocation}
use Rattle.irp.specs.Climb.{above as locations_above}
use Rattle.irp.specs.Packet.{HasOwn, KeepsAllButLocations, handed_to, with_routine}
use Rattle.srb.specs.declared.Kind.{Kind}
use Rattle.srb.specs.declared.Kind.TheVariants.{Read, Write, Flush}
use Rattle.machine.specs.declared.Request.{Request}
use Rattle.device.specs.declared.Climb.{Climb}
use Rattle.device.specs.declared.Room.{Room}
use Rattle.device.specs.Climbing.{Climbs, BringsRoutine}
use Rattle.device.specs.View.{no_request}
use Rattle.hold_filter.specs.declared.table.Held.{Held}

-- a location that asks for no completion routine
abbrev pub silent : StackLocation → StackLocation
silent own = with_routine false false false own

-- the packet has one location more, the class driver's, which asks for what the filter's does; the filter's asks for no
-- completion routine
pub record PassesDown (old new : Irp) : Type 0 where
  pub locations : (higher : List StackLocation) (own : StackLocation) → HasOwn old higher own
      → HasOwn new (higher ++ silent own ∷ []) (handed_to Class (silent own))
  pub length' : length new.locations.items ≡ length old.locations.items + 1
  pub kept : KeepsAllButLocations old new

-- the kind of request that a major function stands for
abbrev pub kind_of : MajorFunction → Kind
kind_of MajorRead = Read
kind_of MajorWrite = Write
kind_of FlushBuffers = Flush
kind_of Create = Flush
kind_of Close = Flush
kind_of InternalDeviceControl = Flush
kind_of Cleanup = Flush
kind_of Pnp = Flush

-- the request that a location asks for
abbrev pub asked_by : StackLocation → Request
asked_by own = record {
  volume = own.volume;
  kind = kind_of own.major;
  extent = own.extent;
  through = own.flags.0 == 0x04;
}

-- the request of the last location
abbrev pub last_asked : Request → List StackLocation → Request
last_asked request [] = request
last_asked request (own ∷ rest) = last_asked (asked_by own) rest

-- the request that a packet's last location asks for
abbrev pub request_in : Irp → Request
request_in irp = last_asked no_request irp.locations.items

-- the packet climbs with this status, no bytes moved, and the cancel routine that it came with; its room comes back
pub record HandsOver (held : Held) (status : NtStatus) (climb : Climb) (room : Room) : Type 0 where
  pub climbs : Climbs (locations_above held.irp.value) held.irp.value.number held.irp.value.cancelled status 0
      held.irp.value.payload climb
  pub brings : BringsRoutine held.routine climb
  pub is_room : room ≡ held.room
