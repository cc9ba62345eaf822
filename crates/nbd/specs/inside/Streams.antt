-- What is taken from a reader whose bytes may be known.
use Rattle.std.specs.Prelude.{◌≡◌, ℕ, List, length, Option}
use Rattle.std.specs.Io.KnownBytes.{Consumes}

-- this many bytes were taken
pub record Skips (count : ℕ) (old new : Option (List ℕ)) : Type 0 where
  pub bytes : List ℕ
  pub long : length bytes ≡ count
  pub taken : Consumes old new bytes

-- these bytes were taken, and they are this many
pub record Takes (count : ℕ) (old new : Option (List ℕ)) (bytes : List ℕ) : Type 0 where
  pub long : length bytes ≡ count
  pub taken : Consumes old new bytes
