-- Bytes cut into sectors are whole sectors. A law of `Medium` cites this, and such a lemma has to stand in specs/.
use Rattle.std.specs.Prelude.{◌≡◌, ℕ, zero, suc, ◌+◌, ◌*◌, ◌/◌, ◌%◌, ◌≤◌, ◌<◌, List, length, map, drop, replicate, All, Option, Some, None, unwrap_or, refl}
use Rattle.std.specs.List.{range_with_len}
use Rattle.std.specs.Option.{ForSome}
use Rattle.std.specs.Simd.{first_chunks}
use Rattle.std.proofs.Common.{arith, length-drop, mul-le-mul_right}
use Rattle.std.proofs.lemmas.List.{length-replicate, length-take-le}
use Rattle.std.proofs.lemmas.List.Elements.{All-nil, All-cons}
use Rattle.sector.specs.Extents.{IsSector}
use Rattle.disk.specs.Sparse.{ByNumber, chunk_bytes, chunk_length, held, sector_at}
use Rattle.disk.specs.inside.Sparse.{AreWhole}

pub All-first_chunks : (size count : ℕ) (bytes : List ℕ) → length bytes ≡ count * size
    → All (IsSector size) (first_chunks size count bytes)
All-first_chunks size zero bytes long = All-nil (IsSector size)
All-first_chunks size (suc n) bytes long = All-cons (IsSector size) _ _
    (length-take-le size bytes (omega arith))
    (All-first_chunks size n (drop size bytes) (omega (arith, length-drop size bytes)))

length_or_zeros : (found : Option (List ℕ)) (n : ℕ) → ForSome found (λ bytes. length bytes ≡ n) → length (unwrap_or found (replicate n 0)) ≡ n
length_or_zeros None n = λ whole. length-replicate {A = ℕ} n 0
length_or_zeros (Some bytes) n = λ whole. whole bytes refl

-- a chunk has the bytes of all its sectors, also where it isn't there
pub length-chunk_bytes : (size sectors : ℕ) (chunks : ByNumber) (number : ℕ) → AreWhole size sectors chunks
    → length (chunk_bytes size sectors chunks number) ≡ chunk_length size sectors number
length-chunk_bytes size sectors chunks number whole = length_or_zeros (held chunks number) (chunk_length size sectors number) (whole number)

-- a sector of the disk has all its bytes
sector_in_chunk : (size sectors : ℕ) (chunks : ByNumber) (sector : ℕ) → AreWhole size sectors chunks → sector < sectors
    → IsSector size (sector_at size sectors chunks sector)
sector_in_chunk size sectors chunks sector whole within =
    let bytes : List ℕ = chunk_bytes size sectors chunks (sector / 64) in
    let long = length-chunk_bytes size sectors chunks (sector / 64) whole in
    let room : (sector % 64 + 1) * size ≤ chunk_length size sectors (sector / 64) = mul-le-mul_right size (omega arith) in
    length-take-le size (drop (sector % 64 * size) bytes) (omega (arith, length-drop (sector % 64 * size) bytes))

All-map_range : (size : ℕ) (f : ℕ → List ℕ) (first count sectors : ℕ) → first + count ≤ sectors → ((sector : ℕ) → sector < sectors → IsSector size (f sector))
    → All (IsSector size) (map f (range_with_len first count))
All-map_range size f first zero sectors within each = All-nil (IsSector size)
All-map_range size f first (suc n) sectors within each =
    All-cons (IsSector size) _ _ (each first (omega arith)) (All-map_range size f (first + 1) n sectors (omega arith) each)

pub All-sectors_in_chunks : (size sectors : ℕ) (chunks : ByNumber) → AreWhole size sectors chunks
    → All (IsSector size) (map (sector_at size sectors chunks) (range_with_len 0 sectors))
All-sectors_in_chunks size sectors chunks whole =
    All-map_range size (sector_at size sectors chunks) 0 sectors sectors (omega arith)
    (λ sector within. sector_in_chunk size sectors chunks sector whole within)
