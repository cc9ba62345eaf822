-- The buffers of pieces that may yet be armed.
use Rattle.std.specs.Prelude.{ℕ, List, Bool, not, ◌==◌, Option, Some, None, get_or}
use Rattle.std.specs.List.{position}

-- a class has buffers for this many pieces, each of this many bytes, and open requests were promised this many
pub record SizeClassView : Type 0 where
  pub bytes : ℕ
  pub pieces : ℕ
  pub promised : ℕ

abbrev pub is_for : ℕ → SizeClassView → Bool
is_for long room = room.bytes == long

abbrev pub is_not_for : ℕ → SizeClassView → Bool
is_not_for long room = not (is_for long room)

abbrev pub count_on : (SizeClassView → ℕ) → List SizeClassView → Option ℕ → ℕ
count_on count rooms None = 0
count_on count rooms (Some at) = count (get_or rooms at (record { bytes = 0; pieces = 0; promised = 0 }))

-- what the first class of this length counts
abbrev pub count_at : (SizeClassView → ℕ) → List SizeClassView → ℕ → ℕ
count_at count rooms long = count_on count rooms (position (is_for long) rooms)

-- for how many pieces of this length there are buffers
abbrev pub pieces_at : List SizeClassView → ℕ → ℕ
pieces_at rooms long = count_at (λ (room : SizeClassView). room.pieces) rooms long

-- how many pieces of this length open requests were promised
abbrev pub promised_at : List SizeClassView → ℕ → ℕ
promised_at rooms long = count_at (λ (room : SizeClassView). room.promised) rooms long
