-- An extent as a set of sectors.
use Rattle.std.specs.Prelude.{◌≡◌, ◌⊎◌, ℕ, ◌+◌, ◌*◌, ◌/◌, ◌%◌, ◌≤◌, ◌<◌, List, Contains, length, slice_range}
use Rattle.sector.specs.declared.Extent.{Extent}

-- the sector of this number is one of the extent's
abbrev pub IsIn : ℕ → Extent → Type 0
IsIn sector extent = (extent.first ≤ sector) × (sector < extent.first + extent.count)

-- the sector is one of these extents'
abbrev pub IsInSome : List Extent → ℕ → Type 0
IsInSome extents sector = (other : Extent) × Contains extents other × IsIn sector other

-- each sector of the extent is one of these extents'
abbrev pub IsCovered : List Extent → Extent → Type 0
IsCovered extents extent = (sector : ℕ) → IsIn sector extent → IsInSome extents sector

-- where the disk is cut into runs of this many sectors, the run of this sector has a sector of the extent
abbrev pub IsNear : ℕ → Extent → ℕ → Type 0
IsNear run extent sector = (other : ℕ) × IsIn other extent × (other / run ≡ sector / run)

-- each sector that is covered now was covered before, or is near the extent
abbrev pub CoversMoreNear : ℕ → Extent → List Extent → List Extent → Type 0
CoversMoreNear run extent old new = (sector : ℕ) → IsInSome new sector → IsInSome old sector ⊎ IsNear run extent sector

-- a sector of this many bytes
abbrev pub IsSector : ℕ → List ℕ → Type 0
IsSector size bytes = length bytes ≡ size

-- the sectors of an extent
abbrev pub sectors_in : List (List ℕ) → Extent → List (List ℕ)
sectors_in sectors extent = slice_range sectors extent.first (extent.first + extent.count)

-- these bytes begin at a sector, are whole sectors, and lie in a disk of this many sectors
pub record AreWholeSectors (offset length sector_size sectors : ℕ) : Type 0 where
  pub begins : offset % sector_size ≡ 0
  pub ends : length % sector_size ≡ 0
  pub within : offset + length ≤ sectors * sector_size
