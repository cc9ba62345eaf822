-- The pieces out, and the places that are out.
use Rattle.std.specs.Prelude.{◌≡◌, ◌<◌, ℕ, ◌+◌, ◌==◌, ◌&&◌, Bool, nat_le, nat_lt, List, All, Any, length, count_by, if◌then◌else◌}
use Rattle.srb.specs.Fate.{Fate, Fresh, Acted, Faulted}
use Rattle.machine.specs.State.{OpenRequest, Piece, State}
use Rattle.machine.specs.Cutting.{mark_at}
use Rattle.machine.specs.Settled.{is_out}

-- a piece of this request at this place
abbrev pub covers : ℕ → ℕ → Piece → Bool
covers number place piece = (piece.owner == number) && (nat_le piece.places.first place && nat_lt place (piece.places.first + piece.places.count))

-- one piece covers each place that is out, and none any other
abbrev pub IsCovered : List Piece → OpenRequest → Type 0
IsCovered pieces o = (place : ℕ) → count_by (covers o.number place) pieces ≡ (if is_out (mark_at o place) then 1 else 0)

-- the piece is of this request
abbrev pub IsOwner : Piece → OpenRequest → Type 0
IsOwner piece o = o.number ≡ piece.owner

-- what has acted handed over as many sectors as it has places
abbrev pub HasFilled : ℕ → Fate → Type 0
HasFilled count (Acted sectors) = length sectors ≡ count
HasFilled count Fresh = Unit {0}
HasFilled count Faulted = Unit {0}

-- a piece of an open request, with a place at least
pub record IsPlaced (requests : List OpenRequest) (piece : Piece) : Type 0 where
  pub owned : Any (IsOwner piece) requests
  pub some : 0 < piece.places.count
  pub filled : HasFilled piece.places.count piece.fate

-- each piece out is of an open request, and covers places that are out, which no other covers
pub record ArePlaced (s : State) : Type 0 where
  pub pieces : All (IsPlaced s.requests) s.pieces
  pub places : All (IsCovered s.pieces) s.requests
