-- Two extents that share a sector.
use Rattle.std.proofs.Common.{◌≡◌, ◌<◌, ◌+◌, ◌↔◌, ℕ, Bool, IsTrue, min, max, arith}
use Rattle.std.proofs.lemmas.Bool.{ltb_from_iff}
use Rattle.sector.specs.declared.Extent.{Extent}
use Rattle.sector.specs.Extents.{IsIn}
use Rattle.mbr.specs.Faults.{share}

-- some sector is in both
abbrev pub HaveCommon : Extent → Extent → Type 0
HaveCommon one other = (sector : ℕ) × IsIn sector one × IsIn sector other

-- if any is, the later of the two first sectors is
pub shares : (one other : Extent) (sharing : Bool) → (IsTrue sharing ↔ HaveCommon one other) → sharing ≡ share one other
shares one other sharing exactly = ltb_from_iff (
  λ (yes : IsTrue sharing). from_common (exactly.0 yes),
  λ within. exactly.1 (max one.first other.first, (omega arith, omega arith), (omega arith, omega arith)),
)
  where
    from_common : HaveCommon one other → max one.first other.first < min (one.first + one.count) (other.first + other.count)
    from_common common = omega (arith, common.1.0, common.1.1, common.2.0, common.2.1)
