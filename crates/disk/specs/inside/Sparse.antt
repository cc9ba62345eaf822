-- What the chunks of a sparse disk keep, and what its calls do to them.
use Rattle.std.specs.Prelude.{◌≡◌, ◌≢◌, ℕ, List, length, replicate, Some, unwrap_or}
use Rattle.std.specs.Option.{ForSome, option_map}
use Rattle.std.specs.HashMap.{keys}
use Rattle.sector.specs.Splice.{splice}
use Rattle.disk.specs.Sparse.{ByNumber, held, chunk_length}

-- a chunk that is there has the bytes of all its sectors
abbrev pub AreWhole : ℕ → ℕ → ByNumber → Type 0
AreWhole size sectors chunks = (number : ℕ) → ForSome (held chunks number) (λ bytes. length bytes ≡ chunk_length size sectors number)

-- the same chunks are there
abbrev pub HoldsSame : ByNumber → ByNumber → Type 0
HoldsSame old new = (number : ℕ) → held new number ≡ held old number

-- where nothing stood at the number, this many zeros stand there now; all else stays
pub record PutsZeros (count number : ℕ) (old new : ByNumber) : Type 0 where
  pub here : held new number ≡ Some (unwrap_or (held old number) (replicate count 0))
  pub others : (other : ℕ) → other ≢ number → held new other ≡ held old other

-- bytes stand over a part of those at the number, and all else stays
pub record PutsBytes (number start : ℕ) (bytes : List ℕ) (old new : ByNumber) : Type 0 where
  pub here : held new number ≡ option_map (λ before. splice before start bytes) (held old number)
  pub others : (other : ℕ) → other ≢ number → held new other ≡ held old other
  pub same_keys : keys new ≡ keys old
