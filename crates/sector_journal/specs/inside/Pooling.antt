-- How one buffer is taken off a class.
use Rattle.std.specs.Prelude.{◌≡◌, ℕ, ◌+◌, List, length}
use Rattle.sector_journal.specs.Pooling.{SizeClassView}

-- a buffer of this length
abbrev pub IsOfLength : List ℕ → ℕ → Type 0
IsOfLength buffer long = length buffer ≡ long

-- the buffer of one piece is taken
pub record TakesOne (old new : SizeClassView) : Type 0 where
  pub same : new.bytes ≡ old.bytes
  pub booked : new.promised ≡ old.promised
  pub less : new.pieces + 1 ≡ old.pieces
