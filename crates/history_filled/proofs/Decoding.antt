-- Each number is the code of some bytes; and those that a sector has room for.
use Rattle.std.proofs.Common.{◌≡◌, ◌≢◌, ◌≤◌, ◌<◌, ◌⊎◌, inl, inr, ℕ, zero, suc, ◌+◌, ◌*◌, ◌==◌, Bool, true, false, List, [], ◌∷◌, refl, sym, ◌∙◌, ap, subst, arith, length, replicate}
use Rattle.std.proofs.lemmas.Bool.{eqb-true, eq-eqb}
use Rattle.std.proofs.lemmas.List.{length-replicate}
use Rattle.register.specs.Values.{code}
use Rattle.register.proofs.Coding.{codes_tell, none_is}

-- BYTES OF A CODE

-- bytes of this code
abbrev pub HasCode : ℕ → Type 0
HasCode value = (bytes : List ℕ) × (code bytes ≡ value)

-- twice a number, or one more
abbrev IsTwice : ℕ → ℕ → Type 0
IsTwice value half = (value ≡ 2 * half) ⊎ (value ≡ 2 * half + 1)

twice_more : (value half : ℕ) → IsTwice value half → (next : ℕ) × IsTwice (suc value) next
twice_more value half (inl even) = (half, inr (omega (arith, even)))
twice_more value half (inr odd) = (half + 1, inl (omega (arith, odd)))

halved : (value : ℕ) → (half : ℕ) × IsTwice value half
halved zero = (0, inl (omega arith))
halved (suc value) = let rest : (half : ℕ) × IsTwice value half = halved value in twice_more value rest.0 rest.1

none_code : HasCode 0
none_code = ([], none_is)

odd_code : (half : ℕ) → HasCode half → HasCode (2 * half + 1)
unfolding code
odd_code half (bytes, is) = (0 ∷ bytes, omega (arith, is))

even_code : (half : ℕ) → 0 < half → HasCode half → HasCode (2 * half)
unfolding code
even_code half some ([], is) = absurd (omega (arith, is))
even_code half some (byte ∷ bytes, is) = (suc byte ∷ bytes, ap (λ v. 2 * v) is)

by_half : (fuel value half : ℕ) → value ≤ suc fuel → ((v : ℕ) → v ≤ fuel → HasCode v) → IsTwice value half → HasCode value
by_half fuel value zero low rest (inl even) = let none : 0 ≡ value = omega arith in subst HasCode none none_code
by_half fuel value (suc half) low rest (inl even) = subst HasCode (sym even) (even_code (suc half) (omega arith) (rest (suc half) (omega arith)))
by_half fuel value half low rest (inr odd) = subst HasCode (sym odd) (odd_code half (rest half (omega arith)))

decoded_by : (fuel value : ℕ) → value ≤ fuel → HasCode value
decoded_by zero value low = let none : 0 ≡ value = omega arith in subst HasCode none none_code
decoded_by (suc fuel) value low = by_half fuel value (halved value).0 low (decoded_by fuel) (halved value).1

pub decoded : (value : ℕ) → HasCode value
decoded value = decoded_by value value (omega arith)

-- BYTES OF A SECTOR

abbrev pub or_zeros : ℕ → List ℕ → Bool → List ℕ
or_zeros size bytes true = bytes
or_zeros size bytes false = replicate size 0

-- bytes of a sector that have this code, or zeros where none have it
abbrev pub sector_of_code : ℕ → ℕ → List ℕ
sector_of_code size value = or_zeros size (decoded value).0 (length (decoded value).0 == size)

sized_by : (size : ℕ) (bytes : List ℕ) (fit : Bool) → (length bytes == size) ≡ fit → length (or_zeros size bytes fit) ≡ size
sized_by size bytes true e = eqb-true (length bytes) size e
sized_by size bytes false e = length-replicate size 0

pub sector_sized : (size value : ℕ) → length (sector_of_code size value) ≡ size
sector_sized size value = sized_by size (decoded value).0 (length (decoded value).0 == size) refl

pub sector_is : (size : ℕ) (bytes : List ℕ) → length bytes ≡ size → sector_of_code size (code bytes) ≡ bytes
sector_is size bytes sized =
    let same : (decoded (code bytes)).0 ≡ bytes = codes_tell (decoded (code bytes)).0 bytes (decoded (code bytes)).1 in
    let long : length (decoded (code bytes)).0 ≡ size = ap length same ∙ sized in
    ap (or_zeros size (decoded (code bytes)).0) (eq-eqb (length (decoded (code bytes)).0) size long) ∙ same

pub sector_has_value : (size : ℕ) (bytes : List ℕ) → 0 < size → length bytes ≡ size → code bytes ≢ 0
sector_has_value size bytes some sized none =
    let empty : bytes ≡ [] = codes_tell bytes [] (none ∙ sym none_is) in
    let short : length bytes ≡ 0 = ap length empty in absurd (omega arith)

-- a value as a sector may have it
abbrev pub mended : ℕ → ℕ → ℕ
mended size value = code (sector_of_code size value)

pub mended_is : (size : ℕ) (bytes : List ℕ) → length bytes ≡ size → mended size (code bytes) ≡ code bytes
mended_is size bytes sized = ap code (sector_is size bytes sized)

pub mended_has_value : (size value : ℕ) → 0 < size → mended size value ≢ 0
mended_has_value size value some = sector_has_value size (sector_of_code size value) some (sector_sized size value)
