-- What a sector machine holds at a moment.
use Rattle.std.specs.Prelude.{◌≡◌, ℕ, Bool, false, List, [], Option, None, IsPermutation}
use Rattle.ntstatus.specs.declared.NtStatus.{NtStatus}
use Rattle.sector.specs.declared.Extent.{Extent}
use Rattle.sector.specs.Splice.{splice}
use Rattle.srb.specs.Fate.{Fate}
use Rattle.machine.specs.declared.ClientRequest.{ClientRequest}

-- what has become of one place of a request
pub data Mark : Type 0 where
  Untouched : Mark
  Out : Mark
  Done : (sector : List ℕ) → Mark
  Failed : (status : NtStatus) → Mark
  Back : Mark

-- a request from its call to its answer
pub record OpenRequest : Type 0 where
  pub number : ℕ
  pub request : ClientRequest
  pub cancelled : Bool
  -- held by a pause, or by a removal
  pub late : Bool
  pub busy_returns : ℕ
  pub marks : List Mark

-- a piece at the adapter; its places are counted from the first of its request
pub record Piece : Type 0 where
  pub number : ℕ
  pub tag : ℕ
  pub owner : ℕ
  pub places : Extent
  pub fate : Fate

-- an answer that a refused call is owed
pub record Owed : Type 0 where
  pub number : ℕ
  pub status : NtStatus

-- the open requests and the pieces out stand in any order
pub record State : Type 0 where
  -- for each partition its sectors, each a list of bytes
  pub arrays : List (List (List ℕ))
  pub next_request : ℕ
  pub next_piece : ℕ
  pub requests : List OpenRequest
  pub pieces : List Piece
  pub owed : Option Owed
  pub paused : Bool
  pub removing : Bool
  pub removed : Bool

-- two states that say the same
pub record IsSame (s t : State) : Type 0 where
  pub arrays : s.arrays ≡ t.arrays
  pub next_request : s.next_request ≡ t.next_request
  pub next_piece : s.next_piece ≡ t.next_piece
  pub requests : IsPermutation s.requests t.requests
  pub pieces : IsPermutation s.pieces t.pieces
  pub owed : s.owed ≡ t.owed
  pub paused : s.paused ≡ t.paused
  pub removing : s.removing ≡ t.removing
  pub removed : s.removed ≡ t.removed

-- at the start: nothing open, nothing out, and the next numbers are 1
abbrev pub opening : List (List (List ℕ)) → State
opening arrays = record {
  arrays = arrays;
  next_request = 1;
  next_piece = 1;
  requests = [];
  pieces = [];
  owed = None;
  paused = false;
  removing = false;
  removed = false;
}

-- a request with new marks from a place on
abbrev pub with_marks : ℕ → List Mark → OpenRequest → OpenRequest
with_marks first marks o = record o { marks = splice o.marks first marks }
