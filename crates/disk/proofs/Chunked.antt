-- Sectors in chunks: what stands in a chunk, and what becomes of it.
use Rattle.std.proofs.Common.{◌≡◌, nat_eq, ℕ, zero, suc, ◌+◌, ◌-◌, ◌*◌, ◌/◌, ◌%◌, ◌≤◌, ◌⊎◌, inl, inr, List, ◌∷◌, ◌++◌, length, map, take, drop, replicate, Option, Some, None, IsSome, Result, Ok, Err, OnOk, OnErr, MatchOption, unwrap_or, arith, refl, sym, ap, ◌∙◌, mul-le-mul_right, zero-add, add-zero, suc-add}
use Rattle.std.proofs.lemmas.Bool.{cases_lt, cases_eq}
use Rattle.std.proofs.lemmas.List.{length-replicate, length-drop, length-take-le, take-append-le, drop-append-le, drop-drop, take-replicate, drop-replicate}
use Rattle.std.proofs.lemmas.List.Folds.{concat-append}
use Rattle.std.proofs.lemmas.Slice.{take-put_mid}
use Rattle.std.proofs.Math.Seq.{drop-append-add, take-add}
use Rattle.std.specs.List.{concat, range_with_len}
use Rattle.std.specs.Map.{lookup}
use Rattle.std.specs.Option.{ForSome, option_map}
use Rattle.std.specs.HashMap.{IsEmpty}
use Rattle.sector.specs.declared.Extent.{Extent}
use Rattle.sector.specs.Extents.{IsIn}
use Rattle.sector.specs.Splice.{splice}
use Rattle.sector.proofs.Splicing.{length-splice, range_apart}
use borrow.Rule.Slice.PartMut.{put_mid}
use Rattle.disk.specs.inside.Chunks.{length-chunk_bytes}
use Rattle.disk.specs.Sparse.{ByNumber, chunk_bytes, chunk_length, chunk_of, held, sector_at}
use Rattle.disk.specs.inside.Sparse.{AreWhole, HoldsSame, PutsBytes, PutsZeros}

-- the bytes that stand in an option, or zeros, are as many as are asked for
length_or_zeros : (found : Option (List ℕ)) (n : ℕ) → ForSome found (λ bytes. length bytes ≡ n) → length (unwrap_or found (replicate n 0)) ≡ n
length_or_zeros None n = λ whole. length-replicate {A = ℕ} n 0
length_or_zeros (Some bytes) n = λ whole. whole bytes refl

-- ZEROS ARE MADE

from_some : (found : Option (List ℕ)) (bytes other : List ℕ) → found ≡ Some bytes → found ≡ Some other → bytes ≡ other
from_some found bytes other e h = cc

pub whole_with_zeros : (size sectors number : ℕ) (old new : ByNumber) → AreWhole size sectors old → PutsZeros (chunk_length size sectors number) number old new
    → AreWhole size sectors new
whole_with_zeros size sectors number old new whole puts other bytes there = elim (cases_eq other number) [
  | inl same ↦
      let here : held new other ≡ Some (unwrap_or (held old number) (replicate (chunk_length size sectors number) 0)) = ap (λ k. held new k) same ∙ puts.here in
      let long = length_or_zeros (held old number) (chunk_length size sectors number) (whole number) in
      ap length (from_some _ bytes _ there here) ∙ (long ∙ ap (λ k. chunk_length size sectors k) (sym same))
  | inr apart ↦ whole other bytes (sym (puts.others other apart) ∙ there)
]

-- what holds either way holds
pub on_each : {A E : Type 0} (result : Result A E) (P Q R : Type 0) → OnOk result P → OnErr result Q → (P → R) → (Q → R) → R
on_each (Ok x) P Q R p q f g = f p
on_each (Err e) P Q R p q f g = g q

-- a map with no entries holds nothing
pub held-empty : (chunks : ByNumber) → IsEmpty chunks → (number : ℕ) → held chunks number ≡ None
held-empty chunks none number = ap (λ entries. option_map (λ bytes. bytes.items) (lookup (nat_eq number) entries)) none

pub whole_unchanged : (size sectors : ℕ) (old new : ByNumber) → AreWhole size sectors old → HoldsSame old new → AreWhole size sectors new
whole_unchanged size sectors old new whole same number bytes there = whole number bytes (sym (same number) ∙ there)

-- A CHUNK IS READ

-- sectors of one chunk are a part of its bytes
in_one_chunk : (size sectors : ℕ) (chunks : ByNumber) (number before count : ℕ) → before + count ≤ 64
    → concat (map (sector_at size sectors chunks) (range_with_len (number * 64 + before) count))
    ≡ take (count * size) (drop (before * size) (chunk_bytes size sectors chunks number))
in_one_chunk size sectors chunks number before zero fits =
    let none : zero * size ≡ 0 = omega arith in
    rw none refl
in_one_chunk size sectors chunks number before (suc n) fits =
    let bytes : List ℕ = chunk_bytes size sectors chunks number in
    let chunk : (number * 64 + before) / 64 ≡ number = omega arith in
    let place : (number * 64 + before) % 64 ≡ before = omega arith in
    let next : number * 64 + before + 1 ≡ number * 64 + (before + 1) = omega arith in
    let first : sector_at size sectors chunks (number * 64 + before) ≡ take size (drop (before * size) bytes) =
    ap (λ k. take size (drop ((number * 64 + before) % 64 * size) (chunk_bytes size sectors chunks k))) chunk
    ∙ ap (λ k. take size (drop (k * size) bytes)) place in
    let rest = in_one_chunk size sectors chunks number (before + 1) n (omega arith) in
    let behind : drop ((before + 1) * size) bytes ≡ drop size (drop (before * size) bytes) =
    ap (λ k. drop k bytes) (omega arith) ∙ sym (drop-drop size (before * size) bytes) in
    let both : take (suc n * size) (drop (before * size) bytes)
    ≡ take size (drop (before * size) bytes) ++ take (n * size) (drop size (drop (before * size) bytes)) =
    ap (λ k. take k (drop (before * size) bytes)) (omega arith) ∙ take-add size (n * size) (drop (before * size) bytes) in
    ap (λ (k : ℕ). sector_at size sectors chunks (number * 64 + before) ++ concat (map (sector_at size sectors chunks) (range_with_len k n))) next
    ∙ (ap (λ xs. xs ++ concat (map (sector_at size sectors chunks) (range_with_len (number * 64 + (before + 1)) n))) first
    ∙ (ap (λ xs. take size (drop (before * size) bytes) ++ xs) (rest ∙ ap (λ xs. take (n * size) xs) behind) ∙ sym both))

-- zeros where nothing stands, else a part of what stands there
part_found : (found : Option (List ℕ)) (n start total : ℕ) (bytes : List ℕ) → start + n ≤ total
    → MatchOption found (bytes ≡ replicate n 0) (λ before. bytes ≡ take n (drop start before))
    → bytes ≡ take n (drop start (unwrap_or found (replicate total 0)))
part_found None n start total bytes within is =
    is ∙ sym (ap (λ xs. take n xs) (drop-replicate {X = ℕ} start total 0) ∙ take-replicate {X = ℕ} n (total - start) 0 (omega arith))
part_found (Some before) n start total bytes within is = is

pub part_read : (size sectors : ℕ) (chunks : ByNumber) (part : Extent) (start n : ℕ) (bytes : List ℕ)
    → part.first % 64 + part.count ≤ 64 → part.first + part.count ≤ sectors → start ≡ (part.first - part.first / 64 * 64) * size → n ≡ part.count * size
    → MatchOption (held chunks (part.first / 64)) (bytes ≡ replicate n 0) (λ before. bytes ≡ take n (drop start before))
    → bytes ≡ concat (map (sector_at size sectors chunks) (range_with_len part.first part.count))
part_read size sectors chunks part start n bytes in_one within begins long is =
    let number : ℕ = part.first / 64 in
    let before : ℕ = part.first % 64 in
    let whole : number * 64 + before ≡ part.first = omega arith in
    let at : start ≡ before * size = begins ∙ ap (λ k. k * size) (let e : part.first - number * 64 ≡ before = omega arith in e) in
    let room : (before + part.count) * size ≤ chunk_length size sectors number = mul-le-mul_right size (omega arith) in
    let inside : start + n ≤ chunk_length size sectors number = omega arith in
    part_found (held chunks number) n start (chunk_length size sectors number) bytes inside is
    ∙ (ap (λ k. take k (drop start (chunk_bytes size sectors chunks number))) long
    ∙ (ap (λ k. take (part.count * size) (drop k (chunk_bytes size sectors chunks number))) at
    ∙ (sym (in_one_chunk size sectors chunks number before part.count in_one)
    ∙ ap (λ (k : ℕ). concat (map (sector_at size sectors chunks) (range_with_len k part.count))) whole)))

-- sectors behind others
pub map_range-append : {X : Type 0} (f : ℕ → X) (first a b : ℕ)
    → map f (range_with_len first (a + b)) ≡ map f (range_with_len first a) ++ map f (range_with_len (first + a) b)
map_range-append f first zero b = rw (zero-add, add-zero) refl
map_range-append f first (suc a) b =
    let rest = map_range-append f (first + 1) a b in
    let next : first + 1 + a ≡ first + suc a = omega arith in
    rw suc-add (ap (λ xs. f first ∷ xs) (rest ∙ ap (λ (k : ℕ). map f (range_with_len (first + 1) a) ++ map f (range_with_len k b)) next))

-- bytes that were read behind others
pub read_more : (f : ℕ → List ℕ) (size first a b n start end : ℕ) (buffer bytes : List ℕ) → n ≡ a + b → start ≡ a * size → end ≡ (a + b) * size
    → end ≤ length buffer → length bytes ≡ end - start → take (a * size) buffer ≡ concat (map f (range_with_len first a))
    → bytes ≡ concat (map f (range_with_len (first + a) b))
    → take (n * size) (put_mid start (end - start) buffer bytes) ≡ concat (map f (range_with_len first n))
read_more f size first a b n start end buffer bytes sum begins ends within long done part =
    let count : n * size ≡ (a + b) * size = ap (λ k. k * size) sum in
    let full : n * size ≡ start + length bytes = omega arith in
    take-put_mid start (end - start) buffer bytes (n * size) full (omega arith)
    ∙ (ap (λ k. take k buffer ++ bytes) begins
    ∙ (ap (λ xs. xs ++ bytes) done
    ∙ (ap (λ xs. concat (map f (range_with_len first a)) ++ xs) part
    ∙ (sym (concat-append (map f (range_with_len first a)) (map f (range_with_len (first + a) b)))
    ∙ (ap concat (sym (map_range-append f first a b)) ∙ ap (λ (k : ℕ). concat (map f (range_with_len first k))) (sym sum))))))

-- A CHUNK IS WRITTEN

-- a list with a part of it replaced is as long, and so is one that isn't there
spliced_whole : (found : Option (List ℕ)) (start n : ℕ) (bytes : List ℕ) → ForSome found (λ before. length before ≡ n) → start + length bytes ≤ n
    → ForSome (option_map (λ before. splice before start bytes) found) (λ after. length after ≡ n)
spliced_whole None start n bytes whole fits after e = cc
spliced_whole (Some before) start n bytes whole fits after e =
    let long : length before ≡ n = whole before refl in
    let same : after ≡ splice before start bytes = cc in
    ap length same ∙ (length-splice before start bytes (omega arith) ∙ long)

whole_with_bytes : (size sectors number start : ℕ) (bytes : List ℕ) (old new : ByNumber) → AreWhole size sectors old → PutsBytes number start bytes old new
    → start + length bytes ≤ chunk_length size sectors number → AreWhole size sectors new
whole_with_bytes size sectors number start bytes old new whole puts fits other after there = elim (cases_eq other number) [
  | inl same ↦
      let here : option_map (λ before. splice before start bytes) (held old number) ≡ Some after = sym puts.here ∙ (ap (λ k. held new k) (sym same) ∙ there) in
      spliced_whole (held old number) start (chunk_length size sectors number) bytes (whole number) fits after here
      ∙ ap (λ k. chunk_length size sectors k) (sym same)
  | inr apart ↦ whole other after (sym (puts.others other apart) ∙ there)
]

-- what stands there is spliced
spliced_there : (found : Option (List ℕ)) (start : ℕ) (bytes zeros : List ℕ) → IsSome found
    → unwrap_or (option_map (λ before. splice before start bytes) found) zeros ≡ splice (unwrap_or found zeros) start bytes
spliced_there None start bytes zeros there = cc
spliced_there (Some before) start bytes zeros there = refl

-- a part of what was put is that part of it
range_inside : (xs : List ℕ) (first : ℕ) (more : List ℕ) (from n : ℕ) → first ≤ length xs → first ≤ from → from + n ≤ first + length more
    → take n (drop from (splice xs first more)) ≡ take n (drop (from - first) more)
range_inside xs first more from n within after fits =
    let rest : List ℕ = drop (first + length more) xs in
    let front : length (take first xs) ≡ first = length-take-le first xs within in
    let place : from ≡ length (take first xs) + (from - first) = omega arith in
    let behind : drop from (splice xs first more) ≡ drop (from - first) (more ++ rest) =
    ap (λ k. drop k (splice xs first more)) place ∙ drop-append-add (take first xs) (more ++ rest) (from - first) in
    let left : n ≤ length (drop (from - first) more) = omega (arith, length-drop (from - first) more) in
    ap (λ ys. take n ys) (behind ∙ drop-append-le (from - first) more rest (omega arith)) ∙ take-append-le n (drop (from - first) more) rest left

-- what a write in one chunk is
pub record WritesPart (size sectors : ℕ) (part : Extent) (start : ℕ) (bytes : List ℕ) (old new : ByNumber) : Type 0 where
  in_one : part.first % 64 + part.count ≤ 64
  within : part.first + part.count ≤ sectors
  begins : start ≡ part.first % 64 * size
  long : length bytes ≡ part.count * size
  whole : AreWhole size sectors old
  there : IsSome (held old (part.first / 64))
  puts : PutsBytes (part.first / 64) start bytes old new

-- the bytes end within the chunk
part_fits : (size sectors : ℕ) (part : Extent) (start : ℕ) (bytes : List ℕ) (old new : ByNumber) → WritesPart size sectors part start bytes old new
    → start + length bytes ≤ chunk_length size sectors (part.first / 64)
part_fits size sectors part start bytes old new w =
    let room : (part.first % 64 + part.count) * size ≤ chunk_length size sectors (part.first / 64) = mul-le-mul_right size (omega arith) in
    omega arith

pub wrote : (size sectors : ℕ) (part chunk : Extent) (start : ℕ) (bytes : List ℕ) (old new : ByNumber) → AreWhole size sectors old
    → part.first + part.count ≤ sectors → part.first % 64 + part.count ≤ 64 → IsSome (held old (part.first / 64)) → length bytes ≡ part.count * size
    → chunk ≡ chunk_of sectors (part.first / 64) → start ≡ (part.first - chunk.first) * size → PutsBytes (part.first / 64) start bytes old new
    → WritesPart size sectors part start bytes old new
wrote size sectors part chunk start bytes old new whole within in_one there long is begins puts =
    let before : part.first - part.first / 64 * 64 ≡ part.first % 64 = omega arith in
    record {
      in_one = in_one;
      within = within;
      begins = begins ∙ (ap (λ extent. (part.first - extent.first) * size) is ∙ ap (λ k. k * size) before);
      long = long;
      whole = whole;
      there = there;
      puts = puts;
    }

pub whole_written : (size sectors : ℕ) (part : Extent) (start : ℕ) (bytes : List ℕ) (old new : ByNumber) → WritesPart size sectors part start bytes old new
    → AreWhole size sectors new
whole_written size sectors part start bytes old new w =
    whole_with_bytes size sectors (part.first / 64) start bytes old new w.whole w.puts (part_fits size sectors part start bytes old new w)

written_chunk : (size sectors : ℕ) (part : Extent) (start : ℕ) (bytes : List ℕ) (old new : ByNumber) → WritesPart size sectors part start bytes old new
    → chunk_bytes size sectors new (part.first / 64) ≡ splice (chunk_bytes size sectors old (part.first / 64)) start bytes
written_chunk size sectors part start bytes old new w =
    let zeros : List ℕ = replicate (chunk_length size sectors (part.first / 64)) 0 in
    ap (λ found. unwrap_or found zeros) w.puts.here ∙ spliced_there (held old (part.first / 64)) start bytes zeros w.there

pub written_inside : (size sectors : ℕ) (part : Extent) (start : ℕ) (bytes : List ℕ) (old new : ByNumber) → WritesPart size sectors part start bytes old new
    → (sector : ℕ) → IsIn sector part → sector_at size sectors new sector ≡ take size (drop ((sector - part.first) * size) bytes)
written_inside size sectors part start bytes old new w sector inside =
    let number : ℕ = part.first / 64 in
    let before : List ℕ = chunk_bytes size sectors old number in
    let in_one : part.first % 64 + part.count ≤ 64 = w.in_one in
    let chunk : sector / 64 ≡ number = omega arith in
    let place : sector % 64 ≡ part.first % 64 + (sector - part.first) = omega arith in
    let from : sector % 64 * size ≡ start + (sector - part.first) * size = ap (λ k. k * size) place ∙ omega (arith, w.begins) in
    let room : (sector - part.first + 1) * size ≤ part.count * size = mul-le-mul_right size (omega arith) in
    let long = length-chunk_bytes size sectors old number w.whole in
    let fits = part_fits size sectors part start bytes old new w in
    ap (λ k. take size (drop (sector % 64 * size) (chunk_bytes size sectors new k))) chunk
    ∙ (ap (λ xs. take size (drop (sector % 64 * size) xs)) (written_chunk size sectors part start bytes old new w)
    ∙ (range_inside before start bytes (sector % 64 * size) size (omega arith) (omega arith) (omega (arith, w.long))
    ∙ ap (λ k. take size (drop k bytes)) (let e : sector % 64 * size - start ≡ (sector - part.first) * size = omega arith in e)))

-- another sector of the chunk lies before the part or behind it
apart_in_chunk : (size sectors : ℕ) (part : Extent) (start : ℕ) (bytes : List ℕ) (old new : ByNumber) → WritesPart size sectors part start bytes old new
    → (sector : ℕ) → ¬ IsIn sector part → sector / 64 ≡ part.first / 64
    → (start + length bytes ≤ sector % 64 * size) ⊎ (sector % 64 * size + size ≤ start)
apart_in_chunk size sectors part start bytes old new w sector outside chunk = elim (cases_lt sector part.first) [
  | inl before ↦
      let room : (sector % 64 + 1) * size ≤ part.first % 64 * size = mul-le-mul_right size (omega arith) in
      inr (omega (arith, w.begins))
  | inr from ↦ elim (cases_lt sector (part.first + part.count)) [
    | inl inside ↦ absurd (outside (from, inside))
    | inr behind ↦
        let room : (part.first % 64 + part.count) * size ≤ sector % 64 * size = mul-le-mul_right size (omega arith) in
        inl (omega (arith, w.begins, w.long))
  ]
]

pub written_outside : (size sectors : ℕ) (part : Extent) (start : ℕ) (bytes : List ℕ) (old new : ByNumber) → WritesPart size sectors part start bytes old new
    → (sector : ℕ) → ¬ IsIn sector part → sector_at size sectors new sector ≡ sector_at size sectors old sector
written_outside size sectors part start bytes old new w sector outside = elim (cases_eq (sector / 64) (part.first / 64)) [
  | inl chunk ↦
      let before : List ℕ = chunk_bytes size sectors old (part.first / 64) in
      let long = length-chunk_bytes size sectors old (part.first / 64) w.whole in
      let fits = part_fits size sectors part start bytes old new w in
      ap (λ k. take size (drop (sector % 64 * size) (chunk_bytes size sectors new k))) chunk
      ∙ (ap (λ xs. take size (drop (sector % 64 * size) xs)) (written_chunk size sectors part start bytes old new w)
      ∙ (range_apart before start bytes (sector % 64 * size) size (omega arith) (apart_in_chunk size sectors part start bytes old new w sector outside chunk)
      ∙ ap (λ k. take size (drop (sector % 64 * size) (chunk_bytes size sectors old k))) (sym chunk)))
  | inr apart ↦
      ap (λ found. take size (drop (sector % 64 * size) (unwrap_or found (replicate (chunk_length size sectors (sector / 64)) 0))))
      (w.puts.others (sector / 64) apart)
]
