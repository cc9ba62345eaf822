-- Bounds of a request, by the sectors of its bytes.
use Rattle.std.proofs.Common.{◌≡◌, ◌<◌, ◌≤◌, ℕ, ◌+◌, ◌*◌, ◌/◌, ◌%◌, ◌==◌, ◌&&◌, Bool, true, false, Option, Some, None, refl, sym, ◌∙◌, ap, subst, arith}
use Rattle.std.specs.Prelude.{is_some, nat_le, if◌then◌else◌}
use Rattle.std.proofs.lemmas.Bool.{and_from, and_parts, eqb-true, leb-true}
use Rattle.std.proofs.lemmas.Bool.Decides.{nat_tests}
use Rattle.std.proofs.lemmas.Nat.{div-add-mod'}
use Rattle.std.proofs.Math.Nat.{mul-div_cancel, div-le_of_le-mul, mul-le-mul_right}
use Rattle.sector.specs.declared.Extent.{Extent}
use Rattle.sector.specs.Extents.{AreWholeSectors}

pub is_there : (b : Bool) (x : Extent) → is_some (if b then Some x else None) ≡ b
is_there true x = refl
is_there false x = refl

-- whole sectors of the partition, no more than the longest
abbrev pub are_in : ℕ → ℕ → ℕ → ℕ → ℕ → Bool
are_in size offset length sectors longest =
    ((offset % size == 0) && (length % size == 0)) && (nat_le (offset / size + length / size) sectors && nat_le (length / size) longest)

abbrev pub extent_by : ℕ → ℕ → ℕ → Extent
extent_by size offset length = record { first = offset / size; count = length / size }

le_true : (a b : ℕ) → a ≤ b → nat_le a b ≡ true
le_true a b h = grind (arith, nat_tests)

eq_true : (a b : ℕ) → a ≡ b → (a == b) ≡ true
eq_true a b h = grind (arith, nat_tests)

quotient_is : (size number whole : ℕ) → 0 < size → whole * size ≡ number → number / size ≡ whole
quotient_is size number whole pos is = ap (λ n. n / size) (sym is) ∙ mul-div_cancel whole pos

below : (size a b : ℕ) → 0 < size → a * size ≤ b * size → a ≤ b
below size a b pos h =
    let flipped : a * size ≤ size * b = omega arith in
    let low : a * size / size ≤ b = div-le_of_le-mul size flipped in
    subst (λ n. n ≤ b) (mul-div_cancel a pos) low

pub within_bounds : (size offset length sectors longest : ℕ) (e : Extent) → 0 < size → AreWholeSectors offset length size sectors → e.first * size ≡ offset → e.count * size ≡ length → e.count ≤ longest
    → Some e ≡ (if are_in size offset length sectors longest then Some (extent_by size offset length) else None)
within_bounds size offset length sectors longest e pos whole starts counts short =
    let first : offset / size ≡ e.first = quotient_is size offset e.first pos starts in
    let count : length / size ≡ e.count = quotient_is size length e.count pos counts in
    let fits : (e.first + e.count) * size ≤ sectors * size = let w : offset + length ≤ sectors * size = whole.within in omega arith in
    let inside : offset / size + length / size ≤ sectors = let low : e.first + e.count ≤ sectors = below size (e.first + e.count) sectors pos fits in omega arith in
    let test : are_in size offset length sectors longest ≡ true =
    and_from _ _ (and_from _ _ (eq_true (offset % size) 0 whole.begins) (eq_true (length % size) 0 whole.ends))
    (and_from _ _ (le_true (offset / size + length / size) sectors inside) (le_true (length / size) longest (omega arith))) in
    let same : Some e ≡ Some (extent_by size offset length) = ap Some (ap (λ n. record { first = n; count = e.count }) (sym first) ∙ ap (λ n. record { first = offset / size; count = n }) (sym count)) in
    same ∙ ap (λ b. if b then Some (extent_by size offset length) else None) (sym test)

none_unless : (b : Bool) (x : Option Extent) → (b ≡ true → ⊥) → None ≡ (if b then x else None)
none_unless true x h = absurd (h refl)
none_unless false x h = refl

pub out_of_bounds : (size offset length sectors longest : ℕ) → 0 < size → (AreWholeSectors offset length size sectors → ⊥)
    → None ≡ (if are_in size offset length sectors longest then Some (extent_by size offset length) else None)
out_of_bounds size offset length sectors longest pos none =
    none_unless (are_in size offset length sectors longest) (Some (extent_by size offset length)) λ test.
    let parts = and_parts _ _ test in
    let whole = and_parts _ _ parts.0 in
    let low = and_parts _ _ parts.1 in
    let begins : offset % size ≡ 0 = eqb-true (offset % size) 0 whole.0 in
    let ends : length % size ≡ 0 = eqb-true (length % size) 0 whole.1 in
    let inside : offset / size + length / size ≤ sectors = leb-true (offset / size + length / size) sectors low.0 in
    let scaled : (offset / size + length / size) * size ≤ sectors * size = mul-le-mul_right size inside in
    let a : offset / size * size + offset % size ≡ offset = div-add-mod' offset size in
    let b : length / size * size + length % size ≡ length = div-add-mod' length size in
    none (record { begins = begins; ends = ends; within = omega arith })
