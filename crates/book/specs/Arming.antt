-- The receipt of an arming, and the entry that is of it.
use Rattle.std.specs.Prelude.{◌≡◌, ◌≢◌, ◌⊎◌, ℕ, List, [], ◌∷◌, length, get_or, slice_get, Option, None, Some}
use Rattle.adapter.specs.Booking.{IsOfSrb}
use Rattle.sector_journal.specs.declared.acted.Entered.{Entered}
use Rattle.sector_journal.specs.declared.slots.Armed.{Armed}
use Rattle.sector_journal.specs.Journal.{JournalView}

-- there is one claim, of the arming of this number, which is of this piece
pub record IsReceipt (number piece : ℕ) (claims : List (ℕ × Armed)) : Type 0 where
  pub armed : Armed
  pub is : claims ≡ (number, armed) ∷ []
  pub is_piece : armed.piece ≡ piece

-- this piece was armed
abbrev pub IsOfPiece : ℕ → List (ℕ × Armed) → Type 0
IsOfPiece piece claims = (number : ℕ) × (armed : Armed) × (claims ≡ (number, armed) ∷ []) × (armed.piece ≡ piece)

-- another piece was armed
abbrev pub IsOfOther : ℕ → List (ℕ × Armed) → Type 0
IsOfOther piece claims = (number : ℕ) (armed : Armed) → claims ≡ (number, armed) ∷ [] → armed.piece ≢ piece

-- the entry of this number names the arming that is claimed, and is of what was armed there
pub record IsOfThis (journal : JournalView) (claims : List (ℕ × Armed)) (number : ℕ) : Type 0 where
  pub entered : Entered
  pub there : slice_get journal.entered number ≡ Some entered
  pub armed : Armed
  pub claimed : claims ≡ (entered.arming, armed) ∷ []
  pub is_piece : entered.entry.piece ≡ armed.piece
  pub is_tag : entered.entry.tag ≡ armed.tag
  pub of_srb : IsOfSrb journal.medium.sector_size (length journal.medium.sectors) armed.srb entered.entry

-- what was armed on a tag
abbrev pub claimed_at : List (Option (List (ℕ × Armed))) → ℕ → Option (List (ℕ × Armed))
claimed_at tags tag = get_or tags tag None

-- the entry of this number is of what was armed on the tag
abbrev pub IsOfTag : JournalView → Option (List (ℕ × Armed)) → ℕ → Type 0
IsOfTag journal None number = ⊥
IsOfTag journal (Some claims) number = IsOfThis journal claims number

-- nothing was armed on the tag, or another piece was
abbrev pub IsFreeOf : ℕ → Option (List (ℕ × Armed)) → Type 0
IsFreeOf piece None = Unit {0}
IsFreeOf piece (Some claims) = IsOfOther piece claims

-- this piece was armed on the tag
abbrev pub HoldsPiece : ℕ → Option (List (ℕ × Armed)) → Type 0
HoldsPiece piece None = ⊥
HoldsPiece piece (Some claims) = IsOfPiece piece claims

-- what was armed for the piece is let go, and all else stays
abbrev pub Forgets : ℕ → Option (List (ℕ × Armed)) → Option (List (ℕ × Armed)) → Type 0
Forgets piece old new = (HoldsPiece piece old × (new ≡ None)) ⊎ (IsFreeOf piece old × (new ≡ old))
