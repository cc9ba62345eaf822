-- Partitions that are there.
use Rattle.std.proofs.Common.{◌≡◌, ◌<◌, ℕ, Option, None, Some, subst, sym}
use Rattle.referee.specs.Taking.{IsBelow}

pub below_none : (count : ℕ) (partition : Option ℕ) → partition ≡ None → IsBelow count partition
below_none count partition is = subst (IsBelow count) (sym is) tt

pub below_some : (count : ℕ) (partition : Option ℕ) (p : ℕ) → partition ≡ Some p → p < count → IsBelow count partition
below_some count partition p is low = subst (IsBelow count) (sym is) low
