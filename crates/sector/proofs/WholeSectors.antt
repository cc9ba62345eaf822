-- Bytes that are whole sectors, counted in sectors.
use Rattle.std.proofs.Common.{◌≡◌, ℕ, ◌+◌, ◌*◌, ◌/◌, ◌%◌, ◌≤◌, ◌<◌, ◌↔◌, arith, inl, inr}
use Rattle.std.proofs.lemmas.Bool.{cases_lt}
use Rattle.std.proofs.Math.Nat.{mul-le-mul_right, le_of_mul-le-mul_right, mod-add-div'}
use Rattle.sector.specs.declared.Extent.{Extent}
use Rattle.sector.specs.Extents.{IsIn}

pub whole_sectors : (bytes size : ℕ) → bytes % size ≡ 0 → bytes / size * size ≡ bytes
whole_sectors bytes size e = omega (arith, e, mod-add-div' bytes size)

below_mul : (a b size : ℕ) → a < b → 0 < size → a * size < b * size
below_mul a b size h pos = let k : (a + 1) * size ≤ b * size = mul-le-mul_right size (omega arith) in omega arith

below_of_mul : (a b size : ℕ) → a * size < b * size → a < b
below_of_mul a b size h = elim (cases_lt a b) [
  | inl lt ↦ lt
  | inr le ↦ let k : b * size ≤ a * size = mul-le-mul_right size le in absurd (omega arith)
]

-- this many sectors from the first on, and their bytes
pub within_bytes : (first count sectors size offset length : ℕ) → 0 < size → first * size ≡ offset → count * size ≡ length
    → (first + count ≤ sectors) ↔ (offset + length ≤ sectors * size)
within_bytes first count sectors size offset length pos e f = (
  λ h. let k : (first + count) * size ≤ sectors * size = mul-le-mul_right size h in omega arith,
  λ h. let k : (first + count) * size ≤ sectors * size = omega arith in le_of_mul-le-mul_right k pos,
)

-- a sector is one of those exactly where its bytes are among the bytes
pub covered_bytes : (extent : Extent) (size offset length : ℕ) → 0 < size → extent.first * size ≡ offset → extent.count * size ≡ length
    → (sector : ℕ) → IsIn sector extent ↔ (offset ≤ sector * size × sector * size < offset + length)
covered_bytes extent size offset length pos e f sector = (
  λ h. (
    let k : extent.first * size ≤ sector * size = mul-le-mul_right size h.0 in omega arith,
    let k : sector * size < (extent.first + extent.count) * size = below_mul sector (extent.first + extent.count) size h.1 pos in omega arith,
  ),
  λ h. (
    let k : extent.first * size ≤ sector * size = omega (arith, h) in le_of_mul-le-mul_right k pos,
    let k : sector * size < (extent.first + extent.count) * size = omega (arith, h) in below_of_mul sector (extent.first + extent.count) size k,
  ),
)
