-- Pieces: how they start, act, fault and come back.
use Rattle.std.specs.Prelude.{◌≡◌, ◌≢◌, ◌<◌, ◌≤◌, ℕ, ◌+◌, ◌*◌, ◌%◌, ◌^◌, ◌&&◌, nat_lt, nat_le, Bool, true, false, not, List, [], ◌∷◌, map, length, replicate, get_or, slice_set, slice_range, IsTrue, IsFalse, All, Any, Contains, unwrap_or, IsPermutation, if◌then◌else◌}
use Rattle.std.specs.List.{list_all, concat}
use Rattle.ntstatus.specs.declared.NtStatus.{NtStatus}
use Rattle.ntstatus.specs.Table.{status_of}
use Rattle.sector.specs.declared.Extent.{Extent}
use Rattle.sector.specs.Extents.{IsSector}
use Rattle.sector.specs.Splice.{splice}
use Rattle.cdb.specs.declared.Cdb.{Cdb}
use Rattle.cdb.specs.declared.Cdb.TheVariants.{Read10, Write10, Sync10, Read16, Write16, Sync16}
use Rattle.cdb.specs.Meaning.{IsPlain, Means}
use Rattle.srb.specs.declared.Completion.{Completion}
use Rattle.srb.specs.declared.Class.{Class}
use Rattle.srb.specs.declared.Class.TheVariants.{Good, Busy, Bad}
use Rattle.srb.specs.declared.DeviceLabel.{DeviceLabel}
use Rattle.srb.specs.declared.DeviceLabel.TheVariants.{Start, Act, Fault, Return}
use Rattle.srb.specs.Fate.{Fate, Fresh, Acted, Faulted, class_of}
use Rattle.srb.specs.declared.Kind.{Kind}
use Rattle.srb.specs.declared.Kind.TheVariants.{Read, Write, Flush}
use Rattle.machine.specs.declared.ClientRequest.{ClientRequest}
use Rattle.machine.specs.Rules.{Rules, first_sector, home}
use Rattle.machine.specs.Cutting.{mark_at, is_back, restarts_left}
use Rattle.machine.specs.State.{Mark, Untouched, Out, Done, Failed, Back, OpenRequest, Piece, State, IsSame, with_marks}

-- START

-- the piece is on another tag
abbrev pub HasOtherTag : ℕ → Piece → Type 0
HasOtherTag tag piece = piece.tag ≢ tag

-- the piece is on this tag
abbrev pub HasTag : ℕ → Piece → Type 0
HasTag tag piece = piece.tag ≡ tag

-- no piece is on the tag, and on each tag below it there is one
pub record IsLowestFreeTag (depth : ℕ) (pieces : List Piece) (tag : ℕ) : Type 0 where
  pub within : tag < depth
  pub free : All (HasOtherTag tag) pieces
  pub lowest : (lower : ℕ) → lower < tag → Any (HasTag lower) pieces

-- no piece was started for the place
abbrev pub is_untouched : Mark → Bool
is_untouched Untouched = true
is_untouched _ = false

-- whether the place waits to be sent
abbrev pub is_unsent : Mark → Bool
is_unsent Untouched = true
is_unsent Back = true
is_unsent _ = false

-- the place waits to be sent
abbrev pub IsUnsent : Mark → Type 0
IsUnsent mark = IsTrue (is_unsent mark)

-- a piece was started for some place of the request
abbrev pub is_started : OpenRequest → Bool
is_started o = not (list_all is_untouched o.marks)

-- the other was started, if it came earlier and isn't cancelled
abbrev pub IsInTurn : OpenRequest → OpenRequest → Type 0
IsInTurn o other = other.number < o.number → IsFalse other.cancelled → IsTrue (is_started other)

-- a request of which a piece may be started now
pub record MayStart (s : State) (o : OpenRequest) : Type 0 where
  pub not_cancelled : IsFalse o.cancelled
  pub not_removing : IsFalse s.removing
  pub not_held : IsTrue s.paused → IsFalse o.late
  pub in_turn : All (IsInTurn o) s.requests

-- all places of a request that was never started
pub record IsWholeRequest (o : OpenRequest) (places : Extent) : Type 0 where
  pub all_places : places.count ≡ length o.marks
  pub not_before : IsFalse (is_started o)

-- places of a request, next to each other, which all wait to be sent: a piece begins with them, and has no more. Unless any cut will do,
-- pieces begin at multiples of the longest, and what came back is sent again while a restart is left
pub record IsSendable (rules : Rules) (o : OpenRequest) (places : Extent) : Type 0 where
  pub some : 0 < places.count
  pub short : places.count ≤ rules.max_transfer
  pub inside : places.first + places.count ≤ length o.marks
  pub unsent : All IsUnsent (slice_range o.marks places.first (places.first + places.count))
  pub begins : IsFalse rules.any_cut → places.first % rules.max_transfer ≡ 0
  pub spare : IsFalse rules.any_cut → IsTrue (is_back (mark_at o places.first)) → 0 < restarts_left rules o
  pub whole : IsTrue rules.one_piece → IsWholeRequest o places

-- an address and a number of blocks that a block of ten bytes has room for
abbrev pub fits_ten : ℕ → ℕ → Bool
fits_ten lba count = nat_lt lba (2 ^ 32) && nat_lt count (2 ^ 16)

-- a read, a write or a flush of the whole disk, in the form of sixteen bytes exactly where ten have no room for its address, its number of
-- blocks or, for a flush, the number of sectors of the disk
abbrev pub read_command : ℕ → ℕ → Bool → Cdb
read_command lba count fua = if fits_ten lba count then Read10 lba count fua else Read16 lba count fua

abbrev pub write_command : ℕ → ℕ → Bool → Cdb
write_command lba count fua = if fits_ten lba count then Write10 lba count fua else Write16 lba count fua

abbrev pub flush_command : ℕ → Cdb
flush_command disk_sectors = if nat_le disk_sectors (2 ^ 32) then Sync10 0 0 else Sync16 0 0

-- the command that asks for those places of the request
abbrev pub command_for : Rules → ClientRequest → Extent → Kind → Cdb
command_for rules q places Read = read_command (home rules q.partition (first_sector rules q + places.first)) places.count q.through
command_for rules q places Write = write_command (home rules q.partition (first_sector rules q + places.first)) places.count q.through
command_for rules q places Flush = flush_command rules.disk_sectors

-- the request with these places out
abbrev pub sent : Extent → OpenRequest → OpenRequest
sent places o = with_marks places.first (replicate places.count Out) o

-- a piece as it starts: it has the next number, and has done nothing yet
abbrev pub new_piece : State → ℕ → OpenRequest → Extent → Piece
new_piece s tag o places = record { number = s.next_piece; tag = tag; owner = o.number; places = places; fate = Fresh }

-- a piece of an open request starts on the lowest free tag, with the one plain block that asks for its places
pub record Starts (rules : Rules) (s : State) (number tag : ℕ) (block : List ℕ) (s' : State) : Type 0 where
  pub owner : OpenRequest
  pub others : List OpenRequest
  pub places : Extent
  pub next_number : number ≡ s.next_piece
  pub on_tag : IsLowestFreeTag rules.depth s.pieces tag
  pub is_open : IsPermutation s.requests (owner ∷ others)
  pub may_start : MayStart s owner
  pub sendable : IsSendable rules owner places
  pub asks : Means block (command_for rules owner.request places owner.request.kind)
  pub plain : IsPlain block (command_for rules owner.request places owner.request.kind)
  pub after : IsSame s' (record s {
    next_piece = s.next_piece + 1;
    requests = sent places owner ∷ others;
    pieces = new_piece s tag owner places ∷ s.pieces;
  })

-- ACT AND FAULT

-- the piece of this number is out and has done nothing yet
pub record IsFreshPiece (s : State) (number : ℕ) (piece : Piece) (other_pieces : List Piece) : Type 0 where
  pub is_out : IsPermutation s.pieces (piece ∷ other_pieces)
  pub is_number : piece.number ≡ number
  pub is_fresh : piece.fate ≡ Fresh

-- the piece with another fate
abbrev pub with_fate : Fate → Piece → Piece
with_fate fate piece = record piece { fate = fate }

-- the number of a request's partition
abbrev pub partition_number : ClientRequest → ℕ
partition_number q = unwrap_or q.partition 0

-- the array of a partition
abbrev pub array_at : List (List (List ℕ)) → ℕ → List (List ℕ)
array_at arrays p = get_or arrays p []

-- the sectors of a request's partition
abbrev pub array_of : State → ClientRequest → List (List ℕ)
array_of s q = array_at s.arrays (partition_number q)

-- the sectors of a request's places, as its array has them
abbrev pub sectors_at : Rules → State → ClientRequest → Extent → List (List ℕ)
sectors_at rules s q places =
    slice_range (array_of s q) (first_sector rules q + places.first) (first_sector rules q + places.first + places.count)

-- the arrays with these sectors in a request's places
abbrev pub written : Rules → State → ClientRequest → Extent → List (List ℕ) → List (List (List ℕ))
written rules s q places sectors =
    slice_set s.arrays (partition_number q) (splice (array_of s q) (first_sector rules q + places.first) sectors)

-- the sectors that a piece's act hands over, and the arrays after it; of the arrays it says something only where the machine is faithful to them
abbrev pub Transfers : Rules → State → ClientRequest → Extent → Kind → List (List ℕ) → List (List (List ℕ)) → Type 0
Transfers rules s q places Read sectors arrays' =
    (IsTrue rules.faithful → sectors ≡ sectors_at rules s q places) × All (IsSector rules.sector_size) sectors × (arrays' ≡ s.arrays)
Transfers rules s q places Write sectors arrays' =
    (concat sectors ≡ slice_range q.bytes (places.first * rules.sector_size) ((places.first + places.count) * rules.sector_size))
    × All (IsSector rules.sector_size) sectors × (arrays' ≡ (if rules.faithful then written rules s q places sectors else s.arrays))
Transfers rules s q places Flush sectors arrays' = (sectors ≡ [] ∷ []) × (arrays' ≡ s.arrays)

-- a fresh piece acts, in one step
pub record Acts (rules : Rules) (s : State) (number : ℕ) (bytes : List ℕ) (s' : State) : Type 0 where
  pub piece : Piece
  pub other_pieces : List Piece
  pub owner : OpenRequest
  pub sectors : List (List ℕ)
  pub arrays' : List (List (List ℕ))
  pub fresh : IsFreshPiece s number piece other_pieces
  pub is_open : Contains s.requests owner
  pub is_owner : owner.number ≡ piece.owner
  pub covers : length sectors ≡ piece.places.count
  pub moves : Transfers rules s owner.request piece.places owner.request.kind sectors arrays'
  pub hands_over : bytes ≡ concat sectors
  pub after : IsSame s' (record s { arrays = arrays'; pieces = with_fate (Acted sectors) piece ∷ other_pieces })

-- a fresh piece faults, and never acts
pub record Faults (s : State) (number : ℕ) (s' : State) : Type 0 where
  pub piece : Piece
  pub other_pieces : List Piece
  pub fresh : IsFreshPiece s number piece other_pieces
  pub after : IsSame s' (record s { pieces = with_fate Faulted piece ∷ other_pieces })

-- RETURN

-- the status of a piece that came back bad
abbrev pub status_of_completion : Completion → NtStatus
status_of_completion c = status_of c.srb_status c.scsi_status c.sense

-- the marks that a piece leaves on its places, by how it came back
abbrev pub LeavesMarks : Piece → Class → List Mark → Type 0
LeavesMarks piece Good marks = (sectors : List (List ℕ)) × (piece.fate ≡ Acted sectors) × (marks ≡ map Done sectors)
LeavesMarks piece Busy marks = (piece.fate ≡ Fresh) × (marks ≡ replicate piece.places.count Back)
LeavesMarks piece (Bad completion) marks =
    (class_of completion ≡ Bad completion) × (marks ≡ replicate piece.places.count (Failed (status_of_completion completion)))

-- what a return adds to the count of busy returns
abbrev pub one_if_busy : Class → ℕ
one_if_busy Busy = 1
one_if_busy Good = 0
one_if_busy (Bad completion) = 0

-- the request after a piece of it came back
abbrev pub given_back : Piece → Class → List Mark → OpenRequest → OpenRequest
given_back piece class marks o =
    record (with_marks piece.places.first marks o) { busy_returns = o.busy_returns + one_if_busy class }

-- a piece comes back, and its tag is free
pub record Returns (s : State) (number : ℕ) (class : Class) (s' : State) : Type 0 where
  pub piece : Piece
  pub other_pieces : List Piece
  pub owner : OpenRequest
  pub others : List OpenRequest
  pub marks : List Mark
  pub is_out : IsPermutation s.pieces (piece ∷ other_pieces)
  pub is_number : piece.number ≡ number
  pub is_open : IsPermutation s.requests (owner ∷ others)
  pub is_owner : owner.number ≡ piece.owner
  pub leaves : LeavesMarks piece class marks
  pub after : IsSame s' (record s { requests = given_back piece class marks owner ∷ others; pieces = other_pieces })

-- the label is a start
abbrev pub IsStart : DeviceLabel → Type 0
IsStart (Start piece tag block) = Unit {0}
IsStart (Act piece bytes) = ⊥
IsStart (Fault piece) = ⊥
IsStart (Return piece class) = ⊥
