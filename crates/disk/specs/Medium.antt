-- What a medium shows, and what its calls do to it.
use Rattle.std.specs.Prelude.{◌≡◌, ◌≤◌, ℕ, ◌+◌, ◌-◌, ◌*◌, List, ◌++◌, length, All, Contains, replicate, slice_range}
use Rattle.std.specs.List.{concat}
use Rattle.sector.specs.declared.Extent.{Extent}
use Rattle.sector.specs.Extents.{CoversMoreNear, IsCovered, IsIn, IsInSome, IsNear, IsSector}
use Rattle.sector.specs.Splice.{splice}

-- what a medium shows
pub record MediumView : Type 0 where
  -- the bytes of one sector
  pub sector_size : ℕ
  -- each sector's bytes, in order
  pub sectors : List (List ℕ)
  -- the numbers of the sectors that can't be read or written
  pub bad : List ℕ
  -- the extents that were reserved for writes
  pub reserved : List Extent
  -- sectors are reserved in runs of this many, counted from sector 0
  pub run : ℕ
  -- how many reads and writes failed
  pub failures : ℕ

-- each sector has as many bytes as a sector of the medium
abbrev pub HasWholeSectors : MediumView → Type 0
HasWholeSectors view = All (IsSector view.sector_size) view.sectors

-- the extent lies within the medium
abbrev pub IsWithin : MediumView → Extent → Type 0
IsWithin view extent = extent.first + extent.count ≤ length view.sectors

-- a sector of the extent is bad
abbrev pub HasBad : MediumView → Extent → Type 0
HasBad view extent = (sector : ℕ) × Contains view.bad sector × IsIn sector extent

-- each sector of the extent is one of a reserved extent
abbrev pub IsReserved : MediumView → Extent → Type 0
IsReserved view extent = IsCovered view.reserved extent

-- the bytes of an extent's sectors, one sector after the other
abbrev pub bytes_at : MediumView → Extent → List ℕ
bytes_at view extent = concat (slice_range view.sectors extent.first (extent.first + extent.count))

-- each sector that is reserved now was reserved before, or is in a run with a sector of the extent
abbrev pub ReservesNear : MediumView → Extent → MediumView → Type 0
ReservesNear old extent new = CoversMoreNear old.run extent old.reserved new.reserved

-- only the runs that the extent has a part in are reserved
abbrev pub ReservesOnly : MediumView → Extent → Type 0
ReservesOnly view extent = (sector : ℕ) → IsInSome view.reserved sector → IsNear view.run extent sector

-- only the reserved extents may differ, and what was reserved still is
pub record Reserves (old new : MediumView) : Type 0 where
  pub lasts : (extent : Extent) → IsReserved old extent → IsReserved new extent
  pub after : new ≡ record old { reserved = new.reserved }

-- the bytes of the extent's sectors are read, and nothing changes
pub record Reads (old : MediumView) (extent : Extent) (bytes : List ℕ) (new : MediumView) : Type 0 where
  pub bytes_are : bytes ≡ bytes_at old extent
  pub after : new ≡ old

-- the bytes, cut into whole sectors, replace the extent's sectors
pub record Writes (old : MediumView) (extent : Extent) (bytes : List ℕ) (new : MediumView) : Type 0 where
  pub moved : List (List ℕ)
  pub bytes_are : concat moved ≡ bytes
  pub covers : length moved ≡ extent.count
  pub whole : All (IsSector old.sector_size) moved
  pub after : new ≡ record old { sectors = splice old.sectors extent.first moved }

-- a call failed: it is counted, and nothing else changes
abbrev pub failed : MediumView → MediumView
failed view = record view { failures = view.failures + 1 }

-- only zeros stand on the medium, and no call has failed
pub record IsBlank (view : MediumView) (sector_size sectors : ℕ) : Type 0 where
  pub size_is : view.sector_size ≡ sector_size
  pub zeros : view.sectors ≡ replicate sectors (replicate sector_size 0)
  pub none_failed : view.failures ≡ 0

-- these bytes stand at the start of the medium, zeros behind them, and no call has failed
pub record StartsWith (view : MediumView) (sector_size sectors : ℕ) (first : List ℕ) : Type 0 where
  pub size_is : view.sector_size ≡ sector_size
  pub count_is : length view.sectors ≡ sectors
  pub bytes_are : concat view.sectors ≡ first ++ replicate (sectors * sector_size - length first) 0
  pub none_failed : view.failures ≡ 0
