-- What a request is cut into, and the packet of a part.
use Rattle.std.specs.Prelude.{◌≡◌, ◌<◌, ℕ, ◌+◌, ◌*◌, ◌^◌, ◌==◌, Bool, List, [], ◌∷◌, None, map, IsFalse, if◌then◌else◌}
use Rattle.std.specs.List.{range_with_len}
use Rattle.ntstatus.specs.declared.NtStatus.TheVariants.{Pending}
use Rattle.split.specs.Pieces.{piece_count, piece_of}
use Rattle.cdb.specs.declared.Cdb.{Cdb}
use Rattle.irp.specs.declared.Driver.TheVariants.{Port}
use Rattle.irp.specs.declared.Irp.{Irp}
use Rattle.irp.specs.declared.MajorFunction.TheVariants.{InternalDeviceControl}
use Rattle.irp.specs.declared.Payload.{Payload}
use Rattle.irp.specs.declared.StackLocation.{StackLocation}
use Rattle.irp.specs.Packet.{cancel_routine_of}
use Rattle.srb.specs.declared.Kind.{Kind}
use Rattle.srb.specs.declared.Kind.TheVariants.{Read, Write, Flush}
use Rattle.machine.specs.declared.Request.{Request}
use Rattle.machine.specs.Rules.{Rules, is_transfer}
use Rattle.machine.specs.Sending.{read_command, write_command, flush_command}
use Rattle.class_disk.specs.declared.Sizes.{Sizes}

-- into how many parts a request is cut; a flush has one
abbrev pub part_count_of : ℕ → Request → ℕ
part_count_of limit r = if is_transfer r.kind then piece_count limit r.extent.count else 1

-- what part k asks for
abbrev pub part_request_of : ℕ → Request → ℕ → Request
part_request_of limit r k = if is_transfer r.kind then record r { extent = piece_of r.extent limit k } else r

-- what the parts of a request ask for, in the order of their places
abbrev pub requests_for : ℕ → Request → List Request
requests_for limit r = map (part_request_of limit r) (range_with_len 0 (part_count_of limit r))

-- the request has only one part, which is all of it
abbrev pub goes_whole : ℕ → Request → Bool
goes_whole limit r = part_count_of limit r == 1

-- a request that can be cut by this limit
pub record IsCuttable (limit : ℕ) (r : Request) : Type 0 where
  pub some : 0 < limit
  pub fits : r.extent.first + r.extent.count < 2 ^ 64

-- the bytes of a request's data
abbrev pub data_length : ℕ → Request → ℕ
data_length sector_size r = if is_transfer r.kind then r.extent.count * sector_size else 0

-- a command block can ask for this request, which is one of the whole disk
pub record FitsBlock (r : Request) : Type 0 where
  pub first : r.extent.first < 2 ^ 64
  pub count : r.extent.count < 2 ^ 32

-- the command that asks a disk of this many sectors for all of a request
abbrev pub disk_command : ℕ → Request → Kind → Cdb
disk_command disk_sectors r Read = read_command r.extent.first r.extent.count r.through
disk_command disk_sectors r Write = write_command r.extent.first r.extent.count r.through
disk_command disk_sectors r Flush = flush_command disk_sectors

-- the rules of one whole disk of this many sectors
pub record IsWholeDisk (disk_sectors : ℕ) (rules : Rules) : Type 0 where
  pub as_many : rules.disk_sectors ≡ disk_sectors
  pub one_disk : rules.partitions ≡ record { first = 0; count = rules.disk_sectors } ∷ []
  pub some_bytes : 0 < rules.sector_size

-- the sizes are those of the disk that these rules have
pub record AreSizes (sizes : Sizes) (rules : Rules) : Type 0 where
  pub sector_size : sizes.sector_size ≡ rules.sector_size
  pub max_transfer : sizes.max_transfer ≡ rules.max_transfer
  pub whole : IsWholeDisk sizes.disk_sectors rules
  pub keeps_bytes : sizes.keeps_bytes ≡ rules.keeps_bytes

-- the port's location of a request: a SCSI request of its extent, with SL_WRITE_THROUGH or no flags, and no completion
-- routine
abbrev pub port_location : Request → StackLocation
port_location r = record {
  driver = Port;
  major = InternalDeviceControl;
  minor = None;
  control = record { 0 = 0 };
  flags = record { 0 = if r.through then 0x04 else 0 };
  volume = r.volume;
  extent = r.extent;
}

-- a packet of the class driver's own as it goes down: it has the port's location alone, and no cancel routine
pub record IsOwnPacket (number : ℕ) (r : Request) (payload : Payload) (irp : Irp) : Type 0 where
  pub is_number : irp.number ≡ number
  pub is_payload : irp.payload ≡ payload
  -- nobody has completed it
  pub pending : irp.io_status ≡ record { status = Pending; information = 0 }
  pub not_cancelled : IsFalse irp.cancelled
  pub location : irp.locations.items ≡ port_location r ∷ []
  pub no_routine : cancel_routine_of irp ≡ None
