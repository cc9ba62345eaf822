-- What a sparse disk shows, and what its calls do to that.
use Rattle.std.proofs.Common.{◌≡◌, nat_eq, ℕ, zero, suc, ◌+◌, ◌-◌, ◌*◌, ◌/◌, ◌%◌, ◌≤◌, ◌<◌, ◌⊎◌, inl, inr, min, List, [], ◌++◌, length, get_or, map, take, drop, replicate, slice_range, Contains, None, IsSome, unwrap_or, mul-le-mul_right, arith, refl, sym, ap, ◌∙◌, subst}
use Rattle.std.proofs.lemmas.List.{length-map, get_or-map, drop_at, drop-drop, take-replicate, drop-replicate, length-replicate}
use Rattle.std.proofs.lemmas.List.Elements.{Contains-get_or}
use Rattle.std.proofs.lemmas.List.Folds.{concat-append}
use Rattle.std.proofs.lemmas.List.FromFn.{length-map-range_with_len, take-map-range_with_len}
use Rattle.std.proofs.lemmas.Map.Views.{hash_map_contains_key_iff, exact_unsigned_eq}
use Rattle.std.specs.Cmp.{nat_eq_equiv}
use Rattle.std.specs.List.{concat, range_with_len}
use Rattle.std.specs.Map.{keys_of}
use Rattle.std.specs.Simd.{first_chunks}
use Rattle.std.specs.HashMap.{IsEmpty, get, keys}
use Rattle.sector.specs.declared.Extent.{Extent}
use Rattle.sector.specs.Extents.{IsIn, IsInSome, IsNear}
use Rattle.sector.specs.Splice.{splice}
use Rattle.disk.specs.declared.chunks.Chunks.{Chunks}
use Rattle.disk.specs.declared.sparse_disk.SparseDisk.{SparseDisk}
use Rattle.disk.specs.Medium.{IsReserved, IsWithin, Reserves, ReservesNear, ReservesOnly, StartsWith, bytes_at}
use Rattle.disk.specs.Sparse.{ByNumber, chunk_length, chunk_of, held}
use Rattle.disk.specs.declared.bad_list.BadList.{BadList}
use Rattle.disk.specs.SparseDisk.{sector_of, sectors_of, shown}
use Rattle.disk.specs.inside.SparseDisk.{AreThere, HasPartOf, HasSameSizes, IsThere, Makes, MakesOf, Overwrites, bytes_of}
use Rattle.disk.proofs.Chunked.{held-empty, map_range-append}
use Rattle.disk.proofs.Cutting.{length-first_chunks, concat-first_chunks, first_chunks-zeros}
use Rattle.disk.proofs.Overwriting.{some_found, some_mapped}

-- an extent within what is shown lies within the disk
pub within_chunks : (disk : SparseDisk) (extent : Extent) → IsWithin (shown disk) extent → extent.first + extent.count ≤ disk.chunks.sectors
within_chunks disk extent within = omega (arith, within, length-map-range_with_len (sector_of disk.chunks) 0 disk.chunks.sectors)

-- SECTORS

-- the sectors behind the first ones
drop_range : {X : Type 0} (f : ℕ → X) (n first : ℕ) → first ≤ n → drop first (map f (range_with_len 0 n)) ≡ map f (range_with_len first (n - first))
drop_range f n first within =
    let sum : n ≡ first + (n - first) = omega arith in
    let from : 0 + first ≡ first = omega arith in
    ap (λ (k : ℕ). drop first (map f (range_with_len 0 k))) sum
    ∙ (ap (λ xs. drop first xs) (map_range-append f 0 first (n - first))
    ∙ (drop_at (map f (range_with_len 0 first)) (map f (range_with_len (0 + first) (n - first))) first (length-map-range_with_len f 0 first)
    ∙ ap (λ (k : ℕ). map f (range_with_len k (n - first))) from))

-- a part of the sectors
part_of_range : {X : Type 0} (f : ℕ → X) (n first count : ℕ) → first + count ≤ n
    → slice_range (map f (range_with_len 0 n)) first (first + count) ≡ map f (range_with_len first count)
part_of_range f n first count within =
    ap (λ xs. take (first + count - first) xs) (drop_range f n first (omega arith))
    ∙ (ap (λ k. take k (map f (range_with_len first (n - first)))) (let e : first + count - first ≡ count = omega arith in e)
    ∙ take-map-range_with_len f first (n - first) count (omega arith))

-- the same sectors
same_sectors : (f g : ℕ → List ℕ) (first count : ℕ) → ((sector : ℕ) → first ≤ sector → sector < first + count → f sector ≡ g sector)
    → map f (range_with_len first count) ≡ map g (range_with_len first count)
same_sectors f g first zero same = refl
same_sectors f g first (suc n) same =
    let head : f first ≡ g first = same first (omega arith) (omega arith) in
    let tail = same_sectors f g (first + 1) n (λ sector low high. same sector (omega arith) (omega arith)) in
    cc

-- sectors that are each a part of some bytes are the cut of these bytes
cut_into_sectors : (f : ℕ → List ℕ) (size first count : ℕ) (bytes : List ℕ) → ((i : ℕ) → i < count → f (first + i) ≡ take size (drop (i * size) bytes))
    → map f (range_with_len first count) ≡ first_chunks size count bytes
cut_into_sectors f size first zero bytes each = refl
cut_into_sectors f size first (suc n) bytes each =
    let head : f first ≡ take size bytes =
    ap f (let e : first ≡ first + 0 = omega arith in e)
    ∙ (each 0 (omega arith) ∙ ap (λ k. take size (drop k bytes)) (let e : 0 * size ≡ 0 = omega arith in e)) in
    let tail = cut_into_sectors f size (first + 1) n (drop size bytes)
    (λ i below. ap f (let e : first + 1 + i ≡ first + (i + 1) = omega arith in e)
    ∙ (each (i + 1) (omega arith)
    ∙ ap (λ xs. take size xs) (ap (λ k. drop k bytes) (let e : (i + 1) * size ≡ size + i * size = omega arith in e) ∙ sym (drop-drop (i * size) size bytes)))) in
    cc

pub reads_sectors : (disk : SparseDisk) (extent : Extent) → IsWithin (shown disk) extent → concat (sectors_of disk.chunks extent) ≡ bytes_at (shown disk) extent
reads_sectors disk extent within =
    ap concat (sym (part_of_range (sector_of disk.chunks) disk.chunks.sectors extent.first extent.count (within_chunks disk extent within)))

-- the whole disk
abbrev pub all_of : Chunks → List (List ℕ)
all_of chunks = sectors_of chunks (record { first = 0; count = chunks.sectors })

pub writes_sectors : (extent : Extent) (bytes : List ℕ) (old new : Chunks) → Overwrites extent bytes old new → extent.first + extent.count ≤ old.sectors
    → all_of new ≡ splice (all_of old) extent.first (first_chunks old.sector_size extent.count bytes)
writes_sectors extent bytes old new w within =
    let first : ℕ = extent.first in
    let count : ℕ = extent.count in
    let left : ℕ = old.sectors - (first + count) in
    let size : ℕ = old.sector_size in
    let moved : List (List ℕ) = first_chunks size count bytes in
    let sum : new.sectors ≡ first + (count + left) = w.sizes.sectors ∙ (let e : old.sectors ≡ first + (count + left) = omega arith in e) in
    let from : 0 + first ≡ first = omega arith in
    let before : map (sector_of new) (range_with_len 0 first) ≡ take first (all_of old) =
    same_sectors (sector_of new) (sector_of old) 0 first (λ sector low high. w.outside sector (λ h. let e : first ≤ sector = h.0 in omega arith))
    ∙ sym (take-map-range_with_len (sector_of old) 0 old.sectors first (omega arith)) in
    let inside : map (sector_of new) (range_with_len first count) ≡ moved =
    cut_into_sectors (sector_of new) size first count bytes
    (λ i below. w.inside (first + i) (omega arith, omega arith)
    ∙ ap (λ k. take size (drop (k * size) bytes)) (let e : first + i - first ≡ i = omega arith in e)) in
    let behind : map (sector_of new) (range_with_len (first + count) left) ≡ drop (first + length moved) (all_of old) =
    same_sectors (sector_of new) (sector_of old) (first + count) left (λ sector low high. w.outside sector (λ h. let e : sector < first + count = h.1 in omega arith))
    ∙ (sym (drop_range (sector_of old) old.sectors (first + count) within)
    ∙ ap (λ k. drop (first + k) (all_of old)) (sym (length-first_chunks size count bytes))) in
    ap (λ (k : ℕ). map (sector_of new) (range_with_len 0 k)) sum
    ∙ (map_range-append (sector_of new) 0 first (count + left)
    ∙ (ap (λ xs. xs ++ map (sector_of new) (range_with_len (0 + first) (count + left))) before
    ∙ ap (λ xs. take first (all_of old) ++ xs)
    (ap (λ (k : ℕ). map (sector_of new) (range_with_len k (count + left))) from
    ∙ (map_range-append (sector_of new) first count left
    ∙ (ap (λ xs. xs ++ map (sector_of new) (range_with_len (first + count) left)) inside ∙ ap (λ xs. moved ++ xs) behind)))))

-- what a write leaves
pub shown_written : (disk : SparseDisk) (chunks : Chunks) (bad : BadList) (sectors : List (List ℕ)) → HasSameSizes disk.chunks chunks
    → all_of chunks ≡ sectors → keys chunks.by_number ≡ keys disk.chunks.by_number → bad ≡ disk.bad
    → shown (record { chunks = chunks; bad = bad }) ≡ record (shown disk) { sectors = sectors }
shown_written disk chunks bad sectors sizes are same_keys same =
    let reserved : map (chunk_of chunks.sectors) (keys chunks.by_number) ≡ map (chunk_of disk.chunks.sectors) (keys disk.chunks.by_number) =
    ap (λ n. map (chunk_of n) (keys chunks.by_number)) sizes.sectors ∙ ap (λ ks. map (chunk_of disk.chunks.sectors) ks) same_keys in
    let numbers : bad.sectors.items ≡ disk.bad.sectors.items = ap (λ (b : BadList). b.sectors.items) same in
    let counted : bad.failures ≡ disk.bad.failures = ap (λ (b : BadList). b.failures) same in
    let size : chunks.sector_size ≡ disk.chunks.sector_size = sizes.sector_size in
    cc

-- RESERVATIONS

Contains-map : {X Y : Type 0} (f : X → Y) (xs : List X) (x : X) → Contains xs x → Contains (map f xs) (f x)
Contains-map f xs x has = (has.0, simp length-map has.1, get_or-map f xs has.0 x (f x) has.1 ∙ ap f has.2)

-- what a mapped list contains comes from an item
record IsMapped {X Y : Type 0} (f : X → Y) (xs : List X) (y : Y) : Type 0 where
  item : X
  contained : Contains xs item
  is : f item ≡ y

from_mapped : {Y : Type 0} (f : ℕ → Y) (xs : List ℕ) (y : Y) → Contains (map f xs) y → IsMapped f xs y
from_mapped f xs y has =
    let inside : has.0 < length xs = simp length-map at has.1 in
    record {
      item = get_or xs has.0 0;
      contained = Contains-get_or xs has.0 0 inside;
      is = sym (get_or-map f xs has.0 0 y inside) ∙ has.2;
    }

-- a chunk is there exactly if its number is a key
key_of_chunk : (chunks : ByNumber) (number : ℕ) → IsSome (held chunks number) → Contains (keys chunks) number
key_of_chunk chunks number there =
    (hash_map_contains_key_iff nat_eq_equiv exact_unsigned_eq chunks number).0 (some_found (λ bytes. bytes.items) (get nat_eq chunks number) there)

chunk_of_key : (chunks : ByNumber) (number : ℕ) → Contains (keys chunks) number → IsSome (held chunks number)
chunk_of_key chunks number has =
    some_mapped (λ bytes. bytes.items) (get nat_eq chunks number) ((hash_map_contains_key_iff nat_eq_equiv exact_unsigned_eq chunks number).1 has)

-- a sector of the disk whose chunk is there is one of a reserved extent
covered : (disk : SparseDisk) (sector : ℕ) → sector < disk.chunks.sectors → IsThere disk.chunks (sector / 64)
    → (other : Extent) × Contains (shown disk).reserved other × IsIn sector other
covered disk sector within there = (
  chunk_of disk.chunks.sectors (sector / 64),
  Contains-map (chunk_of disk.chunks.sectors) (keys disk.chunks.by_number) (sector / 64) (key_of_chunk disk.chunks.by_number (sector / 64) there),
  (omega arith, omega arith),
)

-- and of each other sector of a reserved extent
record IsOfChunk (disk : SparseDisk) (sector : ℕ) : Type 0 where
  there : IsThere disk.chunks (sector / 64)
  within : sector < disk.chunks.sectors

of_chunk : (disk : SparseDisk) (sector : ℕ) (other : Extent) → Contains (shown disk).reserved other → IsIn sector other → IsOfChunk disk sector
of_chunk disk sector other has inside =
    let from = from_mapped (chunk_of disk.chunks.sectors) (keys disk.chunks.by_number) other has in
    let number : ℕ = from.item in
    let same : chunk_of disk.chunks.sectors number ≡ other = from.is in
    let first : number * 64 ≡ other.first = ap (λ (e : Extent). e.first) same in
    let count : min 64 (disk.chunks.sectors - number * 64) ≡ other.count = ap (λ (e : Extent). e.count) same in
    let is : number ≡ sector / 64 = omega (arith, inside.0, inside.1) in
    record {
      there = subst (λ k. IsThere disk.chunks k) is (chunk_of_key disk.chunks.by_number number from.contained);
      within = omega (arith, inside.0, inside.1);
    }

pub there_from_reserved : (disk : SparseDisk) (extent : Extent) → IsReserved (shown disk) extent → AreThere disk.chunks extent
there_from_reserved disk extent reserved sector inside =
    let found = reserved sector inside in
    (of_chunk disk sector found.0 found.1 found.2).there

pub reserved_from_there : (disk : SparseDisk) (extent : Extent) → extent.first + extent.count ≤ disk.chunks.sectors → AreThere disk.chunks extent
    → IsReserved (shown disk) extent
reserved_from_there disk extent within there sector inside = covered disk sector (omega (arith, inside.1)) (there sector inside)

-- chunks that came hold what was read before
same_when_made : (old new : Chunks) → Makes old new → all_of new ≡ all_of old
same_when_made old new makes =
    ap (λ (k : ℕ). map (sector_of new) (range_with_len 0 k)) makes.sizes.sectors
    ∙ same_sectors (sector_of new) (sector_of old) 0 old.sectors
    (λ sector low high. ap (λ k. take k (drop (sector % 64 * k) (bytes_of new (sector / 64)))) makes.sizes.sector_size
    ∙ ap (λ xs. take old.sector_size (drop (sector % 64 * old.sector_size) xs)) (makes.same (sector / 64)))

-- what chunks that came leave
pub shown_made : (disk : SparseDisk) (chunks : Chunks) → Makes disk.chunks chunks
    → Reserves (shown disk) (shown (record { chunks = chunks; bad = disk.bad }))
shown_made disk chunks makes =
    let new : SparseDisk = record { chunks = chunks; bad = disk.bad } in
    record {
      lasts = λ extent reserved sector inside.
          let found = reserved sector inside in
          let is = of_chunk disk sector found.0 found.1 found.2 in
          covered new sector (subst (λ n. sector < n) (sym makes.sizes.sectors) is.within) (makes.lasts (sector / 64) is.there);
      after = ap (λ k. record (shown new) { sector_size = k }) makes.sizes.sector_size
          ∙ ap (λ xs. record (shown new) { sector_size = disk.chunks.sector_size; sectors = xs }) (same_when_made disk.chunks chunks makes);
    }

-- what is reserved of those is near the extent
pub reserved_near : (disk : SparseDisk) (chunks : Chunks) (extent : Extent) → HasSameSizes disk.chunks chunks → MakesOf extent disk.chunks chunks
    → ReservesNear (shown disk) extent (shown (record { chunks = chunks; bad = disk.bad }))
reserved_near disk chunks extent sizes makes sector (other, has, inside) =
    by (makes (sector / 64) is.there)
  where
    is : IsOfChunk (record { chunks = chunks; bad = disk.bad }) sector
    is = of_chunk (record { chunks = chunks; bad = disk.bad }) sector other has inside

    by : IsThere disk.chunks (sector / 64) ⊎ HasPartOf extent (sector / 64) → IsInSome (shown disk).reserved sector ⊎ IsNear 64 extent sector
    by (inl was) = inl (covered disk sector (subst (λ n. sector < n) sizes.sectors is.within) was)
    by (inr part) = inr part

-- none is reserved where no chunk is there
pub none_reserved : (disk : SparseDisk) → IsEmpty disk.chunks.by_number → (shown disk).reserved ≡ []
none_reserved disk none = ap (λ entries. map (chunk_of disk.chunks.sectors) (keys_of entries)) none

-- nothing else is reserved where no chunk but those of the extent is there
pub reserved_only : (disk : SparseDisk) (extent : Extent) → ((number : ℕ) → IsThere disk.chunks number → HasPartOf extent number)
    → ReservesOnly (shown disk) extent
reserved_only disk extent of_extent sector (other, has, inside) = of_extent (sector / 64) (of_chunk disk sector other has inside).there

-- THE START

abbrev zeros : ℕ → List ℕ
zeros n = replicate n 0

-- where no chunk is there a sector is zeros
blank_sector : (chunks : Chunks) (sector : ℕ) → IsEmpty chunks.by_number → sector < chunks.sectors → sector_of chunks sector ≡ zeros chunks.sector_size
blank_sector chunks sector none within =
    let size : ℕ = chunks.sector_size in
    let count : ℕ = chunk_length size chunks.sectors (sector / 64) in
    let found : held chunks.by_number (sector / 64) ≡ None = held-empty chunks.by_number none (sector / 64) in
    let room : (sector % 64 + 1) * size ≤ count = mul-le-mul_right size (omega arith) in
    ap (λ o. take size (drop (sector % 64 * size) (unwrap_or o (zeros count)))) found
    ∙ (ap (λ xs. take size xs) (drop-replicate {X = ℕ} (sector % 64 * size) count 0)
    ∙ take-replicate {X = ℕ} size (count - sector % 64 * size) 0 (omega arith))

-- sectors that are all the same
same_each : (f : ℕ → List ℕ) (x : List ℕ) (first count : ℕ) → ((sector : ℕ) → sector < first + count → f sector ≡ x)
    → map f (range_with_len first count) ≡ replicate count x
same_each f x first zero each = refl
same_each f x first (suc n) each =
    let head : f first ≡ x = each first (omega arith) in
    let tail = same_each f x (first + 1) n (λ sector low. each sector (omega arith)) in
    cc

pub blank_chunks : (chunks : Chunks) → IsEmpty chunks.by_number → all_of chunks ≡ replicate chunks.sectors (zeros chunks.sector_size)
blank_chunks chunks none =
    same_each (sector_of chunks) (zeros chunks.sector_size) 0 chunks.sectors (λ sector within. blank_sector chunks sector none (omega arith))

-- sectors of zeros are zeros
concat_zeros : (size count : ℕ) → concat (replicate count (zeros size)) ≡ zeros (count * size)
concat_zeros size count =
    ap concat (sym (first_chunks-zeros size count)) ∙ concat-first_chunks size count (zeros (count * size)) (length-replicate {A = ℕ} (count * size) 0)

-- some sectors at the start, and zeros behind them
pub starts_with_sectors : (size sectors count : ℕ) (bytes : List ℕ) (all : List (List ℕ)) → length bytes ≡ count * size → count ≤ sectors
    → all ≡ splice (replicate sectors (zeros size)) 0 (first_chunks size count bytes)
    → concat all ≡ bytes ++ zeros (sectors * size - length bytes)
starts_with_sectors size sectors count bytes all long within are =
    let moved : List (List ℕ) = first_chunks size count bytes in
    let place : 0 + length moved ≡ count = omega (arith, length-first_chunks size count bytes) in
    let left : (sectors - count) * size ≡ sectors * size - length bytes =
    let sum : sectors ≡ count + (sectors - count) = omega arith in
    let product : sectors * size ≡ (count + (sectors - count)) * size = ap (λ k. k * size) sum in
    omega arith in
    let behind : drop (0 + length moved) (replicate sectors (zeros size)) ≡ replicate (sectors - count) (zeros size) =
    ap (λ k. drop k (replicate sectors (zeros size))) place ∙ drop-replicate count sectors (zeros size) in
    ap concat (are ∙ ap (λ xs. moved ++ xs) behind)
    ∙ (concat-append moved (replicate (sectors - count) (zeros size))
    ∙ (ap (λ xs. xs ++ concat (replicate (sectors - count) (zeros size))) (concat-first_chunks size count bytes long)
    ∙ ap (λ xs. bytes ++ xs) (concat_zeros size (sectors - count) ∙ ap (λ k. zeros k) left)))

pub started : (size sectors count : ℕ) (bytes : List ℕ) (blank made written : Chunks) (bad : BadList) → blank.sector_size ≡ size → blank.sectors ≡ sectors
    → IsEmpty blank.by_number → Makes blank made → Overwrites (record { first = 0; count = count }) bytes made written
    → length bytes ≡ count * size → count ≤ sectors → bad.failures ≡ 0
    → StartsWith (shown (record { chunks = written; bad = bad })) size sectors bytes
started size sectors count bytes blank made written bad size_is count_is none makes wrote long within unfailed =
    let sized : made.sector_size ≡ size = makes.sizes.sector_size ∙ size_is in
    let counted : made.sectors ≡ sectors = makes.sizes.sectors ∙ count_is in
    let before : all_of made ≡ replicate sectors (zeros size) =
    same_when_made blank made makes
    ∙ (blank_chunks blank none ∙ (ap (λ n. replicate n (zeros blank.sector_size)) count_is ∙ ap (λ n. replicate sectors (zeros n)) size_is)) in
    let after : all_of written ≡ splice (replicate sectors (zeros size)) 0 (first_chunks size count bytes) =
    writes_sectors (record { first = 0; count = count }) bytes made written wrote (omega arith)
    ∙ (ap (λ n. splice (all_of made) 0 (first_chunks n count bytes)) sized ∙ ap (λ xs. splice xs 0 (first_chunks size count bytes)) before) in
    record {
      size_is = wrote.sizes.sector_size ∙ sized;
      count_is = length-map-range_with_len (sector_of written) 0 written.sectors ∙ (wrote.sizes.sectors ∙ counted);
      bytes_are = starts_with_sectors size sectors count bytes (all_of written) long within after;
      none_failed = unfailed;
    }
