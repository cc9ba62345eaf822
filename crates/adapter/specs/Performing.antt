-- What it is to carry out a command.
use Rattle.std.specs.Prelude.{◌≡◌, ◌≤◌, ℕ, ◌+◌, ◌-◌, ◌^◌, Bool, true, false, List, [], ◌∷◌, ◌++◌, length, slice_range, take, replicate, min, All, IsTrue}
use Rattle.std.specs.List.{concat}
use Rattle.byteorder.specs.Endian.{big_bytes}
use Rattle.sector.specs.Extents.{IsSector}
use Rattle.sector.specs.Splice.{splice}
use Rattle.cdb.specs.declared.Cdb.{Cdb}
use Rattle.cdb.specs.declared.Cdb.TheVariants.{Read10, Write10, Sync10, ReadCapacity10, Read16, Write16, Sync16, ReadCapacity16}

-- the data of READ CAPACITY(10): the address of the last block, FFFFFFFFh where it is that or more, then the block
-- length
abbrev pub capacity_data : ℕ → List (List ℕ) → List ℕ
capacity_data size sectors = big_bytes 4 (min (length sectors - 1) (2 ^ 32 - 1)) ++ big_bytes 4 size

-- the data of READ CAPACITY(16): the address of the last block in eight bytes, the block length, then zeros, cut at the
-- allocation length
abbrev pub long_capacity_data : ℕ → ℕ → List (List ℕ) → List ℕ
long_capacity_data allocation size sectors = take allocation (big_bytes 8 (length sectors - 1) ++ big_bytes 4 size ++ replicate allocation 0)

-- the sectors of an extent are handed over, and stay
abbrev pub HandsOver : List (List ℕ) → ℕ → ℕ → List (List ℕ) → List (List ℕ) → Type 0
HandsOver sectors lba count moved after = (lba + count ≤ length sectors) × (moved ≡ slice_range sectors lba (lba + count)) × (after ≡ sectors)

-- these bytes are this many whole sectors, which lie in the disk
abbrev pub IsCut : ℕ → List (List ℕ) → List ℕ → ℕ → ℕ → List (List ℕ) → Type 0
IsCut size sectors bytes lba count moved = (lba + count ≤ length sectors) × (concat moved ≡ bytes) × (length moved ≡ count) × All (IsSector size) moved

-- the sectors of an extent are replaced by these bytes
abbrev pub Replaces : ℕ → List (List ℕ) → List ℕ → ℕ → ℕ → List (List ℕ) → List (List ℕ) → Type 0
Replaces size sectors bytes lba count moved after =
    (lba + count ≤ length sectors) × (concat moved ≡ bytes) × (length moved ≡ count) × All (IsSector size) moved
    × (after ≡ splice sectors lba moved)

-- a command with these bytes, on a disk of these sectors: which sectors it reads or writes, and all sectors after it
abbrev pub Performs : ℕ → List (List ℕ) → List ℕ → Cdb → List (List ℕ) → List (List ℕ) → Type 0
Performs size sectors bytes (Read10 lba count fua) moved after = HandsOver sectors lba count moved after
Performs size sectors bytes (Write10 lba count fua) moved after = Replaces size sectors bytes lba count moved after
Performs size sectors bytes (Sync10 lba blocks) moved after = (moved ≡ [] ∷ []) × (after ≡ sectors)
Performs size sectors bytes ReadCapacity10 moved after = (moved ≡ capacity_data size sectors ∷ []) × (after ≡ sectors)
Performs size sectors bytes (Read16 lba count fua) moved after = HandsOver sectors lba count moved after
Performs size sectors bytes (Write16 lba count fua) moved after = Replaces size sectors bytes lba count moved after
Performs size sectors bytes (Sync16 lba blocks) moved after = (moved ≡ [] ∷ []) × (after ≡ sectors)
Performs size sectors bytes (ReadCapacity16 allocation) moved after = (moved ≡ long_capacity_data allocation size sectors ∷ []) × (after ≡ sectors)

-- a read moves this many whole sectors, which lie in the disk; where it is told of these sectors, it hands them over
abbrev pub HandsOverIfTold : Bool → ℕ → List (List ℕ) → ℕ → ℕ → List (List ℕ) → Type 0
HandsOverIfTold told size sectors lba count moved =
    (lba + count ≤ length sectors) × (length moved ≡ count) × All (IsSector size) moved × (IsTrue told → moved ≡ slice_range sectors lba (lba + count))

-- a command where the sectors stand elsewhere: it moves as many whole sectors as it asks for, and a write those that
-- were sent; a read that is told of these sectors hands them over
abbrev pub Tells : Bool → ℕ → List (List ℕ) → List ℕ → Cdb → List (List ℕ) → Type 0
Tells told size sectors bytes (Read10 lba count fua) moved = HandsOverIfTold told size sectors lba count moved
Tells told size sectors bytes (Write10 lba count fua) moved = IsCut size sectors bytes lba count moved
Tells told size sectors bytes (Sync10 lba blocks) moved = moved ≡ [] ∷ []
Tells told size sectors bytes ReadCapacity10 moved = moved ≡ capacity_data size sectors ∷ []
Tells told size sectors bytes (Read16 lba count fua) moved = HandsOverIfTold told size sectors lba count moved
Tells told size sectors bytes (Write16 lba count fua) moved = IsCut size sectors bytes lba count moved
Tells told size sectors bytes (Sync16 lba blocks) moved = moved ≡ [] ∷ []
Tells told size sectors bytes (ReadCapacity16 allocation) moved = moved ≡ long_capacity_data allocation size sectors ∷ []

-- a faithful adapter carries the command out on these sectors; another tells of it, and leaves them as they are
abbrev pub CarriesOut : Bool → Bool → ℕ → List (List ℕ) → List ℕ → Cdb → List (List ℕ) → List (List ℕ) → Type 0
CarriesOut true told size sectors bytes command moved after = Performs size sectors bytes command moved after
CarriesOut false told size sectors bytes command moved after = Tells told size sectors bytes command moved × (after ≡ sectors)
