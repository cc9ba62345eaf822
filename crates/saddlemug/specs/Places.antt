-- Where the bytes of pieces stand of which C was told.
use Rattle.std.specs.Prelude.{◌≡◌, ◌≢◌, ℕ, List, Option, Some, None, slice_index_or}
use Rattle.std.specs.Vec.{vec_ptr}
use denote.RawPtr.{Ptr}
use Rattle.saddlemug.specs.declared.places.PieceBytes.{PieceBytes}

-- the place of a tag
abbrev pub place_of : List (Option PieceBytes) → ℕ → Option PieceBytes
place_of places tag = slice_index_or places tag None

-- this piece stands in the place
abbrev pub HasPiece : Option PieceBytes → ℕ → Type 0
HasPiece place piece = (own : PieceBytes) × (place ≡ Some own) × (own.piece ≡ piece)

-- a piece with these bytes was put into a place; where it stood there before, the place is as it was
pub record StandsAt (old : Option PieceBytes) (piece : ℕ) (srb_data : List ℕ) (at : Ptr) (new : Option PieceBytes) : Type 0 where
  pub own : PieceBytes
  pub there : new ≡ Some own
  pub is_piece : own.piece ≡ piece
  pub address : vec_ptr own.bytes ≡ at
  pub told_before : HasPiece old piece → new ≡ old
  pub told_first : ¬ HasPiece old piece → own.bytes.items ≡ srb_data
