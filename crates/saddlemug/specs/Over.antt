-- A stack whose sectors C keeps.
use Rattle.std.specs.Prelude.{◌≡◌, ◌≢◌, ◌⊎◌, ◌≤◌, ℕ, ◌+◌, ◌*◌, ◌^◌, Bool, true, false, List, length, replicate, slice_set, Option, Some, None, Result, Ok, Err, IsFalse, IsTrue, if◌then◌else◌}
use Rattle.ntstatus.specs.declared.NtStatus.{NtStatus}
use Rattle.ntstatus.specs.declared.NtStatus.TheVariants.{InsufficientResources, InvalidParameter, NotFound}
use Rattle.srb.specs.declared.Srb.{Srb}
use Rattle.srb.specs.declared.Entry.{Entry}
use Rattle.srb.specs.declared.Completion.{Completion}
use Rattle.adapter.specs.View.{AdapterView}
use Rattle.adapter.specs.Calls.{HasNoneFresh}
use Rattle.adapter.specs.Booking.{IsArmed, IsBookable, IsOfSrb, Suits}
use Rattle.miniport.specs.Memory.{MemView}
use Rattle.miniport.specs.Apart.{IsNewBooked, apart}
use Rattle.io_manager.specs.Shown.{ManagerView}
use Rattle.io_manager.specs.Right.{BooksPiece}
use Rattle.compose.specs.declared.Settings.{Settings}
use Rattle.compose.specs.declared.StartFault.{StartFault}
use Rattle.compose.specs.Opening.{IsFirstView, IsSpent}
use Rattle.saddlemug.specs.declared.booking.DiskOf.{DiskOf}
use Rattle.saddlemug.specs.declared.booking.StackBooking.{StackBooking}
use Rattle.saddlemug.specs.declared.booking.StackCompletion.{StackCompletion}
use Rattle.saddlemug.specs.declared.asked.Asked.{Asked}
use Rattle.saddlemug.specs.declared.asked.StackArmed.{StackArmed}
use Rattle.saddlemug.specs.declared.opening_over.StackDisk.{StackDisk}
use Rattle.saddlemug.specs.declared.places.PieceBytes.{PieceBytes}
use Rattle.saddlemug.specs.Asking.{IsToldOf}
use Rattle.saddlemug.specs.Places.{HasPiece, StandsAt, place_of}
use Rattle.saddlemug.specs.Statuses.{start_status}

pub record OverView : Type 0 where
  pub stack : ManagerView
  -- for each tag the bytes of its piece, if C was told of it
  pub places : List (Option PieceBytes)

abbrev pub over : ManagerView → List (Option PieceBytes) → OverView
over stack places = record { stack = stack; places = places }

-- what holds between two calls: the stack's adapter moves no sectors, its labels keep their bytes, and the disk has these
-- sizes
pub record OverKept (stack : ManagerView) (places : List (Option PieceBytes)) (disk : DiskOf) : Type 0 where
  pub apart : IsFalse stack.adapter.faithful
  pub bytes : IsTrue stack.rules.keeps_bytes
  pub sector_size : stack.rules.sector_size ≡ disk.sector_size
  pub sectors : stack.rules.disk_sectors ≡ disk.sectors
  pub many : length places ≡ 256

-- OPENING

-- a disk with this first sector can have these sizes
pub record IsDisk (disk : StackDisk) (first : List ℕ) : Type 0 where
  pub long : (length first ≡ 512) ⊎ (length first ≡ 4096)
  pub sectors : (1 ≤ disk.sectors) × (disk.sectors ≤ 2 ^ 40)
  pub max_transfer : (1 ≤ disk.max_transfer) × (disk.max_transfer ≤ 2 ^ 16)
  pub depth : (1 ≤ disk.depth) × (disk.depth ≤ 32)

abbrev pub limits_of : StackDisk → Settings
limits_of disk = record { window = disk.window; open_requests = disk.open_requests }

-- a stack stands over such a disk before its first event, and C was told of no piece
pub record IsNewOver (disk : StackDisk) (first : List ℕ) (v : OverView) : Type 0 where
  pub is_disk : IsDisk disk first
  pub adapter : MemView
  pub new : IsNewBooked first disk.sectors disk.max_transfer disk.depth adapter
  pub start : IsFirstView (apart adapter.shown) (limits_of disk) v.stack
  pub none_told : v.places ≡ replicate 256 None

-- no stack could be started over such a disk
pub record StartsNone (disk : StackDisk) (first : List ℕ) (status : NtStatus) : Type 0 where
  pub is_disk : IsDisk disk first
  pub adapter : MemView
  pub new : IsNewBooked first disk.sectors disk.max_transfer disk.depth adapter
  pub fault : StartFault
  pub spent : AdapterView
  pub why : IsSpent (apart adapter.shown) (limits_of disk) fault spent
  pub is_status : status ≡ start_status fault

-- why there is no stack: memory was refused, there is no such disk, or no stack could be started over it
abbrev pub IsOverStatus : StackDisk → List ℕ → NtStatus → Type 0
IsOverStatus disk first status =
    (status ≡ InsufficientResources) ⊎ (((status ≡ InvalidParameter) × (¬ IsDisk disk first)) ⊎ StartsNone disk first status)

-- TELLING

-- C was told of the tag's piece that may act, and its bytes stand in the tag's place
pub record TellsArmed (old : OverView) (tag : ℕ) (told : StackArmed) (new : OverView) : Type 0 where
  pub piece : ℕ
  pub srb : Srb
  pub armed : IsArmed old.stack.adapter tag piece srb
  pub is_told : IsToldOf piece srb told
  pub place : Option PieceBytes
  pub stands : StandsAt (place_of old.places tag) piece srb.data told.bytes place
  pub after : new ≡ record old { places = slice_set old.places tag place }

-- why C was told of no piece: none of the tag could act, or memory for its bytes was refused
abbrev pub IsArmedStatus : OverView → ℕ → NtStatus → Type 0
IsArmedStatus old tag status = ((status ≡ NotFound) × HasNoneFresh old.stack.adapter tag) ⊎ (status ≡ InsufficientResources)

-- BOOKING

abbrev pub piece_of : StackBooking → ℕ
piece_of b = b.piece_high * 2 ^ 64 + b.piece_low

abbrev pub completion_of : StackCompletion → Completion
completion_of c = record {
  srb_status = c.srb_status;
  scsi_status = c.scsi_status;
  sense = if c.has_sense then Some (record { key = c.key; asc = c.asc; ascq = c.ascq }) else None;
}

-- an entry is of this piece and of all bytes that stand in a place, which are this many
pub record IsEntryOf (tag piece count : ℕ) (own : PieceBytes) (entry : Entry) : Type 0 where
  pub is_piece : entry.piece ≡ piece
  pub is_tag : entry.tag ≡ tag
  pub bytes : entry.bytes ≡ own.bytes.items
  pub many : count ≡ length own.bytes.items

-- what C tells of a piece whose bytes stand in this place: they were moved, or the piece failed
abbrev pub IsBookingOf : StackBooking → PieceBytes → Result Entry Completion → Type 0
IsBookingOf b own (Ok entry) = (b.failed ≡ false) × IsEntryOf b.tag (piece_of b) b.length own entry
IsBookingOf b own (Err completion) = (b.failed ≡ true) × (completion ≡ completion_of b.completion)

-- a piece could act, and C was told of it
pub record IsTold (v : OverView) (tag piece : ℕ) (srb : Srb) (own : PieceBytes) : Type 0 where
  pub armed : IsArmed v.stack.adapter tag piece srb
  pub there : place_of v.places tag ≡ Some own
  pub is_piece : own.piece ≡ piece
  pub not_first : piece ≢ 0

-- no piece of the tag could act, or only another one, or only the piece by which the disk was looked at
abbrev pub IsNotArmed : OverView → ℕ → ℕ → Type 0
IsNotArmed v tag piece =
    HasNoneFresh v.stack.adapter tag ⊎ ((other : ℕ) × (srb : Srb) × IsArmed v.stack.adapter tag other srb × ((other ≢ piece) ⊎ (piece ≡ 0)))

-- that piece may not act, or C was not told of it since the tag was last booked
abbrev pub IsNotTold : OverView → ℕ → ℕ → Type 0
IsNotTold v tag piece = IsNotArmed v tag piece ⊎ (¬ HasPiece (place_of v.places tag) piece)

-- C was told of a piece, moved all bytes in its place, and they are what the piece asks for
pub record IsSuited (v : OverView) (b : StackBooking) (a : Asked) : Type 0 where
  pub srb : Srb
  pub own : PieceBytes
  pub told : IsTold v b.tag (piece_of b) srb own
  pub many : b.length ≡ length own.bytes.items
  pub suits : (entry : Entry) → entry.kind ≡ a.kind → entry.extent ≡ a.extent → entry.bytes ≡ own.bytes.items
      → IsOfSrb v.stack.adapter.sector_size (length v.stack.adapter.sectors) srb entry

-- just what C tells was booked of the piece, which may be, and its place was given up
pub record BooksTold (old : OverView) (b : StackBooking) (new : OverView) : Type 0 where
  pub srb : Srb
  pub own : PieceBytes
  pub told : IsTold old b.tag (piece_of b) srb own
  pub what : Result Entry Completion
  pub is_what : IsBookingOf b own what
  pub may : IsBookable old.stack.adapter b.tag (piece_of b) what
  pub books : BooksPiece old.stack b.tag (piece_of b) what new.stack
  pub given_up : new.places ≡ slice_set old.places b.tag None

-- nothing that C tells of the piece suits it
pub record HasNoneToBook (old : OverView) (b : StackBooking) : Type 0 where
  pub srb : Srb
  pub own : PieceBytes
  pub told : IsTold old b.tag (piece_of b) srb own
  pub none : (what : Result Entry Completion) → IsBookingOf b own what → ¬ Suits old.stack.adapter.sector_size (length old.stack.adapter.sectors) srb what

abbrev pub IsBookStatus : OverView → StackBooking → NtStatus → Type 0
IsBookStatus old b status = ((status ≡ NotFound) × IsNotTold old b.tag (piece_of b)) ⊎ ((status ≡ InvalidParameter) × HasNoneToBook old b)
