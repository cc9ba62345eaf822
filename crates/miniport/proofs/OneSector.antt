-- A disk of which the first sector alone is there.
use Rattle.std.proofs.Common.{◌≡◌, ◌<◌, ◌≤◌, ℕ, zero, suc, ◌+◌, ◌-◌, ◌*◌, List, [], ◌∷◌, ◌++◌, length, take, drop, replicate, get_or, refl, sym, ap, ◌∙◌, arith, take-append-drop}
use Rattle.std.specs.List.{range_with_len}
use Rattle.std.proofs.lemmas.List.{append-nil, nil_from_length, length-replicate}
use Rattle.std.proofs.lemmas.List.FromFn.{get_or-range_with_len, length-range_with_len}
use Rattle.std.proofs.lemmas.List.Elements.{All-nil, All-cons}
use Rattle.sector.specs.declared.Extent.{Extent}
use Rattle.sector.specs.Extents.{IsSector}
use Rattle.disk.specs.Medium.{MediumView, HasBad, IsWithin, Writes}
use Rattle.miniport.specs.FirstSector.{sectors_from}

-- the disk with these fields
abbrev pub disk_of : ℕ → ℕ → List ℕ → ℕ → MediumView
disk_of size sectors first failures = record {
  sector_size = size;
  sectors = sectors_from size sectors first;
  bad = range_with_len 1 (sectors - 1);
  reserved = (record { first = 0; count = sectors }) ∷ [];
  run = 1;
  failures = failures;
}

pub counted : (size sectors : ℕ) (first : List ℕ) → 1 ≤ sectors → length (sectors_from size sectors first) ≡ sectors
counted size sectors first some = let n = length-replicate {A = List ℕ} (sectors - 1) (replicate {A = ℕ} size 0) in omega (arith, n, some)

-- the extent has a sector that isn't the first
abbrev pub IsElsewhere : Extent → Type 0
IsElsewhere extent = (0 < extent.count) × (1 < extent.first + extent.count)

pub bad_elsewhere : (size sectors failures : ℕ) (first : List ℕ) (extent : Extent) → HasBad (disk_of size sectors first failures) extent → IsElsewhere extent
bad_elsewhere size sectors failures first extent (sector, (k, low, is), inside) =
    let at : get_or (range_with_len 1 (sectors - 1)) k sector ≡ 1 + k = get_or-range_with_len 1 (sectors - 1) k sector (omega (arith, low, length-range_with_len 1 (sectors - 1))) in
    let e : sector ≡ 1 + k = sym is ∙ at in
    (omega (arith, inside.0, inside.1), omega (arith, inside.1, e))

pub elsewhere_bad : (size sectors failures : ℕ) (first : List ℕ) (extent : Extent) → 1 ≤ sectors → IsWithin (disk_of size sectors first failures) extent → IsElsewhere extent → HasBad (disk_of size sectors first failures) extent
elsewhere_bad size sectors failures first extent some within (more, far) =
    let n = counted size sectors first some in
    let k : ℕ = extent.first + extent.count - 2 in
    let sector : ℕ = extent.first + extent.count - 1 in
    let low : k < length (range_with_len 1 (sectors - 1)) = omega (arith, length-range_with_len 1 (sectors - 1), n, within, far, some) in
    let at : get_or (range_with_len 1 (sectors - 1)) k sector ≡ 1 + k = get_or-range_with_len 1 (sectors - 1) k sector (omega (arith, low, length-range_with_len 1 (sectors - 1))) in
    let e : 1 + k ≡ sector = omega (arith, far) in
    (sector, (k, low, at ∙ e), (omega (arith, more), omega (arith, more)))

-- WRITING WHAT IS THERE

at_most_one : (extent : Extent) → (¬ IsElsewhere extent) → (extent.count ≡ 1 → ⊥) → extent.count ≡ 0
at_most_one extent near other = by_count extent.count refl
  where
    by_count : (n : ℕ) → extent.count ≡ n → extent.count ≡ 0
    by_count zero e = e
    by_count (suc zero) e = absurd (other e)
    by_count (suc (suc n)) e = absurd (near (omega (arith, e), omega (arith, e)))

pub writes_one : (size sectors failures : ℕ) (first bytes : List ℕ) (extent : Extent) → (¬ IsElsewhere extent) → extent.count ≡ 1 → length bytes ≡ extent.count * size
    → Writes (disk_of size sectors first failures) extent bytes (disk_of size sectors bytes failures)
writes_one size sectors failures first bytes extent near one long =
    let one_of : 1 * size ≡ size = omega arith in
    let whole : length bytes ≡ size = long ∙ ap (λ (n : ℕ). n * size) one ∙ one_of in
    let start : extent.first ≡ 0 = by_first extent.first refl in
    record {
      moved = bytes ∷ [];
      bytes_are = append-nil bytes;
      covers = sym one;
      whole = All-cons (IsSector size) bytes [] whole (All-nil (IsSector size));
      after = ap (λ (xs : List (List ℕ)). record (disk_of size sectors first failures) { sectors = xs }) (rw start refl);
    }
  where
    by_first : (f : ℕ) → extent.first ≡ f → extent.first ≡ 0
    by_first zero e = e
    by_first (suc f) e = absurd (near (omega (arith, one), omega (arith, one, e)))

pub writes_none : (size sectors failures : ℕ) (first bytes : List ℕ) (extent : Extent) → (¬ IsElsewhere extent) → (extent.count ≡ 1 → ⊥) → length bytes ≡ extent.count * size
    → Writes (disk_of size sectors first failures) extent bytes (disk_of size sectors first failures)
writes_none size sectors failures first bytes extent near other long =
    let none : extent.count ≡ 0 = at_most_one extent near other in
    let zero_of : 0 * size ≡ 0 = omega arith in
    let z : length bytes ≡ 0 = long ∙ ap (λ (n : ℕ). n * size) none ∙ zero_of in
    let xs : List (List ℕ) = sectors_from size sectors first in
    let e : extent.first + 0 ≡ extent.first = omega arith in
    record {
      moved = [];
      bytes_are = sym (nil_from_length bytes z);
      covers = sym none;
      whole = All-nil (IsSector size);
      after = ap (λ (ys : List (List ℕ)). record (disk_of size sectors first failures) { sectors = ys }) (sym (ap (λ (n : ℕ). take extent.first xs ++ drop n xs) e ∙ take-append-drop extent.first xs));
    }
