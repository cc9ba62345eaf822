-- What is kept of the chunks that are there, and how a reservation makes them.
use Rattle.std.specs.Prelude.{◌≡◌, ◌⊎◌, ℕ, ◌-◌, ◌*◌, ◌/◌, List, take, drop, IsSome}
use Rattle.std.specs.HashMap.{keys}
use Rattle.sector.specs.declared.Extent.{Extent}
use Rattle.sector.specs.Extents.{IsIn}
use Rattle.disk.specs.declared.chunks.Chunks.{Chunks}
use Rattle.disk.specs.Sparse.{chunk_bytes, held}
use Rattle.disk.specs.SparseDisk.{sector_of}

-- the bytes of a chunk, as they are read
abbrev pub bytes_of : Chunks → ℕ → List ℕ
bytes_of chunks number = chunk_bytes chunks.sector_size chunks.sectors chunks.by_number number

-- the chunk of this number is there
abbrev pub IsThere : Chunks → ℕ → Type 0
IsThere chunks number = IsSome (held chunks.by_number number)

-- the chunk of each sector of the extent is there
abbrev pub AreThere : Chunks → Extent → Type 0
AreThere chunks extent = (sector : ℕ) → IsIn sector extent → IsThere chunks (sector / 64)

-- a sector of the extent is in the chunk of this number
abbrev pub HasPartOf : Extent → ℕ → Type 0
HasPartOf extent number = (sector : ℕ) × IsIn sector extent × (sector / 64 ≡ number)

-- the chunk of this number is the only one that may have come
abbrev pub MakesOne : ℕ → Chunks → Chunks → Type 0
MakesOne number old new = (other : ℕ) → IsThere new other → IsThere old other ⊎ (other ≡ number)

-- only chunks in which the extent has a part may have come
abbrev pub MakesOf : Extent → Chunks → Chunks → Type 0
MakesOf extent old new = (number : ℕ) → IsThere new number → IsThere old number ⊎ HasPartOf extent number

-- the disk is as large as before
pub record HasSameSizes (old new : Chunks) : Type 0 where
  pub sector_size : new.sector_size ≡ old.sector_size
  pub sectors : new.sectors ≡ old.sectors

-- chunks may have come, and nothing that is read has changed
pub record Makes (old new : Chunks) : Type 0 where
  pub sizes : HasSameSizes old new
  pub same : (number : ℕ) → bytes_of new number ≡ bytes_of old number
  pub lasts : (number : ℕ) → IsThere old number → IsThere new number

-- bytes stand over the sectors of an extent, and over no other; no chunk came
pub record Overwrites (extent : Extent) (bytes : List ℕ) (old new : Chunks) : Type 0 where
  pub sizes : HasSameSizes old new
  pub same_keys : keys new.by_number ≡ keys old.by_number
  pub inside : (sector : ℕ) → IsIn sector extent
      → sector_of new sector ≡ take old.sector_size (drop ((sector - extent.first) * old.sector_size) bytes)
  pub outside : (sector : ℕ) → ¬ IsIn sector extent → sector_of new sector ≡ sector_of old sector
