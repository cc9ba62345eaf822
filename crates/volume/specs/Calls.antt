-- What the calls of a volume do to its bytes, and what refuses them.
use Rattle.std.specs.Prelude.{◌≡◌, ◌≢◌, ◌<◌, ◌≤◌, ◌⊎◌, ℕ, ◌+◌, ◌*◌, ◌%◌, Bool, false, List, [], Some, Result, Ok, Err, length, slice_range}
use Rattle.ntstatus.specs.declared.NtStatus.{NtStatus}
use Rattle.ntstatus.specs.declared.NtStatus.TheVariants.{Success}
use Rattle.sector.specs.Splice.{splice}
use Rattle.srb.specs.declared.Kind.TheVariants.{Read, Write, Flush}
use Rattle.machine.specs.declared.ClientRequest.{ClientRequest}
use Rattle.io_manager.specs.declared.Refusal.{Refusal}
use Rattle.io_manager.specs.declared.Refusal.TheVariants.{InvalidParameter, DeviceBusy, InsufficientResources}
use Rattle.io_manager.specs.Calls.{number_limit}
use Rattle.compose.specs.Opening.{longest_request}
use Rattle.volume.specs.declared.Error.{Error}
use Rattle.volume.specs.declared.Error.TheVariants.{Refused, Failed}
use Rattle.volume.specs.Shown.{Content, VolumeView}
use Rattle.volume.specs.Working.{ComesTo}

-- this many bytes from this one on are whole sectors of the partition, and no more than the longest request has
pub record AreInBounds (c : Content) (offset count : ℕ) : Type 0 where
  pub begins : offset % c.sector_size ≡ 0
  pub ends : count % c.sector_size ≡ 0
  pub inside : offset + count ≤ length c.bytes
  pub short : count ≤ longest_request * c.sector_size

-- why a request was refused: its bytes are not in bounds, numbers are used up, or memory was refused
abbrev pub IsRefusal : VolumeView → Type 0 → Refusal → Type 0
IsRefusal v InBounds InvalidParameter = ¬ InBounds
IsRefusal v InBounds DeviceBusy = number_limit ≤ v.state.next_request
IsRefusal v InBounds InsufficientResources = InBounds
IsRefusal v InBounds _ = ⊥

-- the disk is as it was, with as many handles open, after at most one request more
pub record IsSameDisk (old new : VolumeView) : Type 0 where
  pub content : new.content ≡ old.content
  pub partition : new.partition ≡ old.partition
  pub asked : new.state.next_request ≤ old.state.next_request + 1
  pub same_handles : new.open_handles ≡ old.open_handles

-- a request that was refused was not sent; one that failed was sent
abbrev pub WasSent : VolumeView → VolumeView → Error → Type 0
WasSent old new (Refused reason) = new.state.next_piece ≡ old.state.next_piece
WasSent old new (Failed status) = old.state.next_piece < new.state.next_piece

-- WHAT IS ASKED AND ANSWERED

-- a read, a write and a flush of the partition, as requests
abbrev pub read_of : VolumeView → ℕ → ℕ → ClientRequest
read_of v offset count = record { partition = Some v.partition; kind = Read; offset = offset; length = count; through = false; bytes = [] }

abbrev pub write_of : VolumeView → ℕ → List ℕ → Bool → ClientRequest
write_of v offset bytes through = record { partition = Some v.partition; kind = Write; offset = offset; length = length bytes; through = through; bytes = bytes }

abbrev pub flush_of : VolumeView → ClientRequest
flush_of v = record { partition = Some v.partition; kind = Flush; offset = 0; length = 0; through = false; bytes = [] }

-- just this request was called, and its one answer has this status
abbrev pub IsAnswered : VolumeView → ClientRequest → NtStatus → VolumeView → Type 0
IsAnswered old q status new = ComesTo old.rules old.state q status new.state

-- a request that was not refused is told as it was answered
abbrev pub IsToldAsAnswered : {X : Type 0} → VolumeView → ClientRequest → Result X Error → VolumeView → Type 0
IsToldAsAnswered old q (Ok value) new = IsAnswered old q Success new
IsToldAsAnswered old q (Err (Failed status)) new = IsAnswered old q status new
IsToldAsAnswered old q (Err (Refused reason)) new = Unit {0}

-- READ AND FLUSH

-- a read gives just these bytes of the partition
pub record Reads (c : Content) (offset count : ℕ) (bytes : List ℕ) : Type 0 where
  pub in_bounds : AreInBounds c offset count
  pub bytes_are : bytes ≡ slice_range c.bytes offset (offset + count)

-- why a request did not succeed: it was refused, or it was sent and ended with another status than SUCCESS
abbrev pub IsFault : VolumeView → Type 0 → Error → Type 0
IsFault v InBounds (Refused reason) = IsRefusal v InBounds reason
IsFault v InBounds (Failed status) = InBounds × (status ≢ Success)

-- WRITE

-- the disk has these bytes in the partition from this one on and is else as it was, with as many handles open, after at
-- most one request more
pub record Writes (old : VolumeView) (offset : ℕ) (bytes : List ℕ) (new : VolumeView) : Type 0 where
  pub content : new.content ≡ record old.content { bytes = splice old.content.bytes offset bytes }
  pub partition : new.partition ≡ old.partition
  pub asked : new.state.next_request ≤ old.state.next_request + 1
  pub same_handles : new.open_handles ≡ old.open_handles

-- the bytes of a sector among others
abbrev pub sector_of : ℕ → ℕ → List ℕ → List ℕ
sector_of size k bytes = slice_range bytes (k * size) ((k + 1) * size)

-- each sector has the bytes of one list or those of the other
pub record AreMixed (size : ℕ) (xs ys mixed : List ℕ) : Type 0 where
  pub long : length mixed ≡ length ys
  pub each : (k : ℕ) → (sector_of size k mixed ≡ sector_of size k xs) ⊎ (sector_of size k mixed ≡ sector_of size k ys)

-- what a write that failed leaves: each of its sectors is as it was or was written, and nothing else changed
pub record WritesSome (old : VolumeView) (offset : ℕ) (bytes : List ℕ) (new : VolumeView) : Type 0 where
  pub mixed : List ℕ
  pub are_mixed : AreMixed old.content.sector_size (slice_range old.content.bytes offset (offset + length bytes)) bytes mixed
  pub writes : Writes old offset mixed new

-- a refused write changed nothing
abbrev pub IsWriteFault : VolumeView → ℕ → List ℕ → Error → VolumeView → Type 0
IsWriteFault old offset bytes (Refused reason) new = IsRefusal old (AreInBounds old.content offset (length bytes)) reason × IsSameDisk old new
IsWriteFault old offset bytes (Failed status) new =
    AreInBounds old.content offset (length bytes) × (status ≢ Success) × WritesSome old offset bytes new
