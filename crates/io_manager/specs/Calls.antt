-- What a client's call asks, and what refuses it.
use Rattle.std.specs.Prelude.{ℕ, ◌/◌, ◌==◌, ◌^◌, nat_le, Bool, List, [], ◌∷◌, Option, Some, None, length}
use Rattle.std.specs.Prelude.{slice_index_or, count_by, is_some, if◌then◌else◌}
use Rattle.ntstatus.specs.declared.NtStatus.{NtStatus}
use Rattle.ntstatus.specs.declared.NtStatus.TheVariants.{InvalidHandle as HandleStatus}
use Rattle.ntstatus.specs.declared.NtStatus.TheVariants.{InvalidParameter as ParameterStatus}
use Rattle.ntstatus.specs.declared.NtStatus.TheVariants.{DeletePending as PendingStatus, DeviceBusy as BusyStatus}
use Rattle.ntstatus.specs.declared.NtStatus.TheVariants.{InsufficientResources as ResourcesStatus}
use Rattle.ntstatus.specs.declared.NtStatus.TheVariants.{InvalidDeviceRequest as RequestStatus, NotFound as FoundStatus}
use Rattle.ntstatus.specs.First.{when, first_some}
use Rattle.sector.specs.declared.Extent.{Extent}
use Rattle.srb.specs.declared.Kind.{Kind}
use Rattle.srb.specs.declared.Kind.TheVariants.{Read, Write, Flush}
use Rattle.machine.specs.declared.ClientRequest.{ClientRequest}
use Rattle.machine.specs.Rules.{Rules, home, first_sector, place_count}
use Rattle.machine.specs.Cutting.{piece_count}
use Rattle.machine.specs.Calling.{refusal}
use Rattle.io_manager.specs.declared.Handle.{Handle}
use Rattle.io_manager.specs.declared.Refusal.{Refusal}
use Rattle.io_manager.specs.declared.Refusal.TheVariants.{InvalidHandle, InvalidParameter, DeletePending}
use Rattle.io_manager.specs.declared.Refusal.TheVariants.{DeviceBusy, InsufficientResources, InvalidDeviceRequest}
use Rattle.io_manager.specs.declared.Refusal.TheVariants.{NotFound}
use Rattle.io_manager.specs.declared.OpenHandle.{OpenHandle}
use Rattle.io_manager.specs.Shown.{ManagerView}

-- numbers are below this one
abbrev pub number_limit : ℕ
number_limit = 2 ^ 62

-- no number is left, where this is the next one
abbrev pub are_used_up : ℕ → Bool
are_used_up next = nat_le number_limit next

-- the most handles that may be open at once
abbrev pub handle_limit : ℕ
handle_limit = 64

-- a call is refused for want of a number, or of memory
abbrev pub IsWant : Refusal → Type 0
IsWant DeviceBusy = Unit {0}
IsWant InsufficientResources = Unit {0}
IsWant _ = ⊥

-- the status that stands for a refusal
abbrev pub status_of_refusal : Refusal → NtStatus
status_of_refusal InvalidHandle = HandleStatus
status_of_refusal InvalidParameter = ParameterStatus
status_of_refusal DeletePending = PendingStatus
status_of_refusal DeviceBusy = BusyStatus
status_of_refusal InsufficientResources = ResourcesStatus
status_of_refusal InvalidDeviceRequest = RequestStatus
status_of_refusal NotFound = FoundStatus

-- the partition of the handle in a slot, where it has this number
abbrev pub partition_at : Option OpenHandle → ℕ → Option ℕ
partition_at None number = None
partition_at (Some open') number = if open'.number == number then Some open'.partition else None

-- the partition that a handle is open on, if it is open
abbrev pub partition_of : List (Option OpenHandle) → Handle → Option ℕ
partition_of handles handle = partition_at (slice_index_or handles handle.slot None) handle.number

-- the bytes that a call brings along
abbrev pub bytes_called : Kind → List ℕ → List ℕ
bytes_called Write bytes = bytes
bytes_called Read bytes = []
bytes_called Flush bytes = []

-- a call on a handle for this many bytes, without the bytes
abbrev pub asked_on : ManagerView → Handle → Kind → ℕ → ℕ → Bool → ClientRequest
asked_on v handle kind offset length' through = record {
  partition = partition_of v.handles handle;
  kind = kind;
  offset = offset;
  length = length';
  through = through;
  bytes = [];
}

-- a call on a handle with the caller's buffer; a flush has no bytes
abbrev pub call_on : ManagerView → Handle → Kind → ℕ → List ℕ → Bool → ClientRequest
call_on v handle kind offset buffer through = record (asked_on v handle kind offset (length buffer) through)
    { bytes = bytes_called kind buffer }

-- the label of a refused call has no bytes: they went back to the caller
abbrev pub without_bytes : ClientRequest → ClientRequest
without_bytes q = record q { bytes = [] }

-- what refuses a handle on a partition, if anything: the first that fits
abbrev pub open_refusal : ManagerView → ℕ → Option NtStatus
open_refusal v partition = first_some (
    when (are_used_up v.next_handle) BusyStatus
    ∷ when v.state.removing PendingStatus
    ∷ when (nat_le (length v.rules.partitions) partition) ParameterStatus
    ∷ when (nat_le handle_limit (count_by is_some v.handles)) BusyStatus
    ∷ [])

-- the sectors of the disk that a request moves, in order; a flush moves none, from where its partition begins
abbrev pub disk_extent : Rules → ClientRequest → Extent
disk_extent rules q = record {
  first = home rules q.partition (first_sector rules q);
  count = q.length /
      rules.sector_size;
}

-- what memory is asked for: a request of this kind, on these sectors of the disk
abbrev pub Need : Type 0
Need = Kind × Extent

-- what a call asks memory for, where nothing refuses it
abbrev pub reserved_by : Rules → ClientRequest → Option Need
reserved_by rules q = Some (q.kind, disk_extent rules q)

-- the number of pieces that a request is cut into, and its sectors of the disk
abbrev pub opened_as : Rules → ClientRequest → ℕ × Extent
opened_as rules q = (piece_count rules (place_count rules q), disk_extent rules q)

-- what a call would open now, if anything: nothing once numbers are used up, nor where it is answered at once
abbrev pub would_open : ManagerView → ClientRequest → Option (ℕ × Extent)
would_open v q =
    if are_used_up v.state.next_request then None
    else (if is_some (refusal v.rules v.state q) then None else Some (opened_as v.rules q))
