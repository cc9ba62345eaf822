-- An array of bytes, and what is done to it.
use Rattle.std.specs.Prelude.{◌≡◌, ◌≤◌, ◌<◌, ◌⊎◌, ℕ, ◌+◌, ◌%◌, Bool, List, ◌++◌, length, take, drop}
use Rattle.nbd.specs.declared.arrays.Sizes.{Sizes}

-- an array as its user sees it
pub record Content : Type 0 where
  -- bytes of a block
  pub block : ℕ
  -- the bytes of the array
  pub bytes : List ℕ
  -- whether clients are told that it can't be written
  pub read_only : Bool

-- what clients are told of an array
abbrev pub sizes_of : Content → Sizes
sizes_of c = record { block = c.block; bytes = length c.bytes; read_only = c.read_only }

abbrev pub IsBlockSize : ℕ → Type 0
IsBlockSize size = (size ≡ 512) ⊎ (size ≡ 4096)

-- `count` bytes from byte `offset` on are whole blocks of an array of `size` bytes, and at least one
pub record AreInBounds (block size offset count : ℕ) : Type 0 where
  pub begins : offset % block ≡ 0
  pub ends : count % block ≡ 0
  pub some : 0 < count
  pub inside : offset + count ≤ size

-- the list with other items in place, from this one on
abbrev pub splice : List ℕ → ℕ → List ℕ → List ℕ
splice xs first others = take first xs ++ (others ++ drop (first + length others) xs)

-- the array with these bytes from this one on
abbrev pub written : Content → ℕ → List ℕ → Content
written c offset bytes = record c { bytes = splice c.bytes offset bytes }

-- nothing in the array changed but perhaps this many bytes from this one on
pub record IsSameOutside (old : Content) (offset count : ℕ) (new : Content) : Type 0 where
  pub block : new.block ≡ old.block
  pub long : length new.bytes ≡ length old.bytes
  pub before : take offset new.bytes ≡ take offset old.bytes
  pub behind : drop (offset + count) new.bytes ≡ drop (offset + count) old.bytes
  pub told : new.read_only ≡ old.read_only
