-- The pieces that may act, by their tags.
use Rattle.std.specs.Prelude.{◌≡◌, ◌≢◌, ◌<◌, ℕ, List, length, Option, Some, None, get_or, slice_set}
use Rattle.std.specs.List.{sum_by}
use Rattle.sector_journal.specs.declared.slots.Armed.{Armed}
use Rattle.sector_journal.specs.Reserving.{of_length}

-- the piece that may act on a tag
abbrev pub armed_at : List (Option Armed) → ℕ → Option Armed
armed_at slots tag = get_or slots tag None

abbrev pub one_if_armed : Option Armed → ℕ
one_if_armed (Some armed) = 1
one_if_armed None = 0

-- the number of pieces that may act
abbrev pub armed_count : List (Option Armed) → ℕ
armed_count slots = sum_by one_if_armed slots

abbrev pub one_if_long : ℕ → Option Armed → ℕ
one_if_long long (Some armed) = of_length 1 (length armed.srb.data) long
one_if_long long None = 0

-- the number of pieces of this length that may act
abbrev pub armed_with : List (Option Armed) → ℕ → ℕ
armed_with slots long = sum_by (one_if_long long) slots

-- the tag isn't armed for this piece
abbrev pub HasNone : List (Option Armed) → ℕ → ℕ → Type 0
HasNone slots tag piece = (armed : Armed) → armed_at slots tag ≡ Some armed → armed.piece ≢ piece

-- there is such a tag, and no piece may act on it
abbrev pub IsFree : List (Option Armed) → ℕ → Type 0
IsFree slots tag = (tag < length slots) × (armed_at slots tag ≡ None)

-- the tag was armed for this piece, and isn't any more
pub record Takes (old : List (Option Armed)) (tag piece : ℕ) (armed : Armed) (new : List (Option Armed)) : Type 0 where
  pub was_there : armed_at old tag ≡ Some armed
  pub is_piece : armed.piece ≡ piece
  pub after : new ≡ slice_set old tag None
