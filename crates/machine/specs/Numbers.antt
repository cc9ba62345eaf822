-- Numbers are given once, and each open request has a place.
use Rattle.std.specs.Prelude.{◌<◌, ℕ, map, length, All, eqb}
use Rattle.std.specs.List.{IsDistinct}
use Rattle.machine.specs.State.{OpenRequest, Piece, State}

-- the number of a request
abbrev pub request_number : OpenRequest → ℕ
request_number o = o.number

-- the number of a piece
abbrev pub piece_number : Piece → ℕ
piece_number piece = piece.number

-- the number of the request was given before this one
abbrev pub IsGiven : ℕ → OpenRequest → Type 0
IsGiven next o = o.number < next

-- the number of the piece was given before this one
abbrev pub IsSent : ℕ → Piece → Type 0
IsSent next piece = piece.number < next

-- the request has a place at least
abbrev pub HasPlaces : OpenRequest → Type 0
HasPlaces o = 0 < length o.marks

-- open requests and pieces out have numbers of their own, all given before
pub record AreDistinct (s : State) : Type 0 where
  pub requests : IsDistinct eqb (map request_number s.requests)
  pub given : All (IsGiven s.next_request) s.requests
  pub pieces : IsDistinct eqb (map piece_number s.pieces)
  pub sent : All (IsSent s.next_piece) s.pieces

-- each open request has a place at least
abbrev pub HavePlaces : State → Type 0
HavePlaces s = All HasPlaces s.requests
