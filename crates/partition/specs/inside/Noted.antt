-- What the partition driver notes in its own location of a packet.
use Rattle.std.specs.Prelude.{ℕ, ◌-◌, ◌==◌, true, false, List, [], ◌∷◌, Option, Some, None, length, slice_get, bit_and, if◌then◌else◌}
use Rattle.sector.specs.declared.Extent.{Extent}
use Rattle.irp.specs.declared.Driver.TheVariants.{Filter}
use Rattle.irp.specs.declared.MajorFunction.{MajorFunction}
use Rattle.irp.specs.declared.MajorFunction.TheVariants.{Read as MajorRead, Write as MajorWrite}
use Rattle.irp.specs.declared.StackLocation.{StackLocation}
use Rattle.irp.specs.Packet.{handed_to, with_routine}
use Rattle.srb.specs.declared.Kind.{Kind}
use Rattle.srb.specs.declared.Kind.TheVariants.{Read, Write, Flush}
use Rattle.machine.specs.declared.Request.{Request}
use Rattle.device.specs.View.{Packet, major_of}

-- its own location as it leaves it: with the major function of the request, and a completion routine for each outcome
abbrev pub noting : Kind → StackLocation → StackLocation
noting kind own = with_routine true true false (record own { major = major_of false kind })

-- the location of the next driver, for this extent of the whole disk
abbrev pub passed_on : Extent → StackLocation → StackLocation
passed_on extent own = record (handed_to Filter own) { volume = 0; extent = extent }

-- the kind of request that a major function asks for
abbrev pub kind_in : MajorFunction → Kind
kind_in MajorRead = Read
kind_in MajorWrite = Write
kind_in _ = Flush

-- the request that is noted in a location
abbrev pub noted_in : StackLocation → Request
noted_in own = record {
  volume = own.volume;
  kind = kind_in own.major;
  extent = own.extent;
  through = bit_and own.flags.0 0x04 == 0x04;
}

-- what stands for the request of a packet that isn't there, or has no location
abbrev pub nothing : Request
nothing = record { volume = 0; kind = Flush; extent = record { first = 0; count = 0 }; through = false }

-- the request that is noted in a location, if there is one
abbrev pub noted_by : Option StackLocation → Request
noted_by None = nothing
noted_by (Some own) = noted_in own

-- the request that is noted in the last of these locations
abbrev pub noted_last : List StackLocation → Request
noted_last locations = noted_by (slice_get locations (length locations - 1))

-- the request that is noted in the packet of this number
abbrev pub asked : List Packet → ℕ → Request
asked [] number = nothing
asked (packet ∷ packets) number = if packet.number == number then noted_last packet.above else asked packets number
