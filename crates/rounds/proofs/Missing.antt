-- Why a stack has no partition for clients that are all on partition 0.
use Rattle.std.proofs.Common.{◌≡◌, ◌≤◌, ℕ, zero, suc, List, [], ◌∷◌, Some, ap, arith, length, refl, replicate, slice_get, subst, sym, ◌∙◌}
use Rattle.sector.specs.declared.Extent.{Extent}
use Rattle.machine.specs.Rules.{Rules}
use Rattle.traced.specs.Opening.{NamesNone}
use Rattle.host.specs.Opening.{IsHostFault}
use Rattle.host.specs.declared.opened.HostFault.{HostFault}
use Rattle.host.specs.declared.opened.HostFault.TheVariants.{NoPartition}

zero_at : (n c p : ℕ) → slice_get (replicate n 0) c ≡ Some p → p ≡ 0
zero_at zero c p at = absurd (cc (at))
zero_at (suc n) zero p at = cc (at)
zero_at (suc n) (suc c) p at = zero_at n c p at

none_of : (extents : List Extent) → length extents ≤ 0 → extents ≡ []
none_of [] few = refl
none_of (extent ∷ extents) few = absurd (omega (arith, few))

pub no_partition : (rules : Rules) (n : ℕ) (partitions : List ℕ) (fault : HostFault) → partitions ≡ replicate n 0 → fault ≡ NoPartition → IsHostFault rules partitions fault
    → rules.partitions ≡ []
no_partition rules n partitions fault is missed why =
    let names : NamesNone rules partitions = subst (IsHostFault rules partitions) missed why in
    let first = zero_at n names.0 names.1 (ap (λ ps. slice_get ps names.0) (sym is) ∙ names.2) in
    none_of rules.partitions (subst (λ p. length rules.partitions ≤ p) first names.3)
