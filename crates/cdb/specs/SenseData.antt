-- Sense data in the fixed format.
use Rattle.std.specs.Prelude.{◌≡◌, ◌≤◌, ◌%◌, ℕ, List, [], ◌∷◌, length, slice_index, All}
use Rattle.ntstatus.specs.declared.Sense.{Sense}
use Rattle.cdb.specs.Meaning.{IsZeroAt}

-- the bytes reach to the additional sense code qualifier, and their response code is that of a current error
pub record TellsOfError (bytes : List ℕ) : Type 0 where
  pub long_enough : 14 ≤ length bytes
  pub response : slice_index bytes 0 % 128 ≡ 0x70

-- the bytes hold this sense; its key stands in the low four bits of byte 2
pub record Tells (bytes : List ℕ) (sense : Sense) : Type 0 where
  pub tells : TellsOfError bytes
  pub key : slice_index bytes 2 % 16 ≡ sense.key
  pub code : slice_index bytes 12 ≡ sense.asc
  pub qualifier : slice_index bytes 13 ≡ sense.ascq

-- the eighteen bytes hold the sense, have an additional sense length of ten, and are 0 elsewhere
pub record IsSenseData (bytes : List ℕ) (sense : Sense) : Type 0 where
  pub eighteen_bytes : length bytes ≡ 18
  pub response : slice_index bytes 0 ≡ 0x70
  pub key : slice_index bytes 2 ≡ sense.key
  pub additional_length : slice_index bytes 7 ≡ 10
  pub code : slice_index bytes 12 ≡ sense.asc
  pub qualifier : slice_index bytes 13 ≡ sense.ascq
  pub unused_bytes : All (IsZeroAt bytes) (1 ∷ 3 ∷ 4 ∷ 5 ∷ 6 ∷ 8 ∷ 9 ∷ 10 ∷ 11 ∷ 14 ∷ 15 ∷ 16 ∷ 17 ∷ [])
