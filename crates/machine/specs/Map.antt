-- The partition map of a disk.
use Rattle.std.specs.Prelude.{◌≤◌, ◌<◌, ◌⊎◌, ℕ, ◌+◌, List, All, AllPairs}
use Rattle.sector.specs.declared.Extent.{Extent}

-- one ends before the other begins
abbrev pub AreApart : Extent → Extent → Type 0
AreApart extent other = (extent.first + extent.count ≤ other.first) ⊎ (other.first + other.count ≤ extent.first)

-- some sectors of a disk of this many, without sector 0, where the table stands
pub record IsPartition (sectors : ℕ) (extent : Extent) : Type 0 where
  pub behind_table : 0 < extent.first
  pub some : 0 < extent.count
  pub inside : extent.first + extent.count ≤ sectors

-- partitions that share no sector
pub record IsMap (sectors : ℕ) (partitions : List Extent) : Type 0 where
  pub each : All (IsPartition sectors) partitions
  pub apart : AllPairs AreApart partitions
