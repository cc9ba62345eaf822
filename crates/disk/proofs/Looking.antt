-- A look into numbers that rise, at the first that isn't below an extent.
use Rattle.std.proofs.Common.{◌≡◌, ℕ, ◌-◌, ◌≤◌, ◌<◌, ◌↔◌, inl, inr, List, length, get_or, nat_lt, IsTrue, Contains, arith, ap, le_of_eq, le_of_lt, eq-or-lt_of_le}
use Rattle.std.proofs.lemmas.Bool.{cases_lt, ltb-true, lt-ltb}
use Rattle.std.proofs.lemmas.List.{get_or_default}
use Rattle.std.proofs.lemmas.List.Kept.{AllPairs-from_increasing}
use Rattle.std.proofs.lemmas.List.Sorted.{IsPartitionedBy-ltb}
use Rattle.std.specs.List.Sorted.{IsStrictlyIncreasing, IsNonDecreasingBy, IsPartitionedBy}
use Rattle.sector.specs.declared.Extent.{Extent}
use Rattle.sector.specs.Extents.{IsIn}

in_order : (bad : List ℕ) → IsStrictlyIncreasing bad → IsNonDecreasingBy (λ x. x) bad
in_order bad rising i j d le within = elim (eq-or-lt_of_le le) [
  | inl same ↦ le_of_eq (ap (λ (k : ℕ). get_or bad k d) same)
  | inr lt ↦ le_of_lt (AllPairs-from_increasing bad rising i j d lt within)
]

pub parted : (bad : List ℕ) (first : ℕ) → IsStrictlyIncreasing bad → IsPartitionedBy (λ y. nat_lt y first) bad
parted bad first rising = IsPartitionedBy-ltb (λ x. x) bad first (in_order bad rising)

-- the numbers before this place are below a sector
abbrev AllBelow : List ℕ → ℕ → ℕ → Type 0
AllBelow bad next first = (k : ℕ) → k < next → get_or bad k 0 < first

-- those from this place on aren't
abbrev NoneBelow : List ℕ → ℕ → ℕ → Type 0
NoneBelow bad next first = (k : ℕ) → next ≤ k → k < length bad → first ≤ get_or bad k 0

-- some of the numbers is in the extent
abbrev Meets : List ℕ → Extent → Type 0
Meets bad extent = (sector : ℕ) × Contains bad sector × IsIn sector extent

-- a number in the extent stands at the place or after it
from_place : (bad : List ℕ) (first next k sector : ℕ) → AllBelow bad next first → k < length bad → get_or bad k sector ≡ sector → first ≤ sector → next ≤ k
from_place bad first next k sector below within is le = elim (cases_lt k next) [
  | inl lt ↦ let less : get_or bad k 0 < first = below k lt in
      let same : get_or bad k sector ≡ get_or bad k 0 = get_or_default bad k sector 0 within in absurd (omega arith)
  | inr ge ↦ ge
]

there : (bad : List ℕ) (extent : Extent) (next : ℕ) → IsStrictlyIncreasing bad → AllBelow bad next extent.first → NoneBelow bad next extent.first → next < length bad
    → IsTrue (nat_lt (get_or bad next 0 - extent.first) extent.count) ↔ Meets bad extent
there bad extent next rising below above lt =
    let after : extent.first ≤ get_or bad next 0 = above next (omega arith) lt in (
      λ h. let near : get_or bad next 0 - extent.first < extent.count = ltb-true _ _ h in
          (get_or bad next 0, (next, lt, get_or_default bad next (get_or bad next 0) 0 lt), (after, omega arith)),
      λ w. let place : next ≤ w.1.0 = from_place bad extent.first next w.1.0 w.0 below w.1.1 w.1.2 w.2.0 in
          let low : get_or bad next w.0 ≤ get_or bad w.1.0 w.0 = in_order bad rising next w.1.0 w.0 place w.1.1 in
          let same : get_or bad next w.0 ≡ get_or bad next 0 = get_or_default bad next w.0 0 lt in
          lt-ltb _ _ (omega (arith, w.1.2, w.2.1)),
    )

pub met_there : (lent bad : List ℕ) (extent : Extent) (next : ℕ) → lent ≡ bad → IsStrictlyIncreasing bad
    → AllBelow lent next extent.first → NoneBelow lent next extent.first → next < length lent
    → IsTrue (nat_lt (get_or lent next 0 - extent.first) extent.count) ↔ Meets bad extent
met_there lent bad extent next same rising = rw same (there bad extent next rising)

nowhere : (bad : List ℕ) (extent : Extent) (next : ℕ) → AllBelow bad next extent.first → length bad ≤ next
    → IsTrue (nat_lt next (length bad)) ↔ Meets bad extent
nowhere bad extent next below past = (
  λ h. absurd (let lt : next < length bad = ltb-true _ _ h in omega arith),
  λ w. absurd (let place : next ≤ w.1.0 = from_place bad extent.first next w.1.0 w.0 below w.1.1 w.1.2 w.2.0 in
      let inside : w.1.0 < length bad = w.1.1 in omega arith),
)

pub met_nowhere : (lent bad : List ℕ) (extent : Extent) (next : ℕ) → lent ≡ bad → AllBelow lent next extent.first → length lent ≤ next
    → IsTrue (nat_lt next (length lent)) ↔ Meets bad extent
met_nowhere lent bad extent next same = rw same (nowhere bad extent next)
