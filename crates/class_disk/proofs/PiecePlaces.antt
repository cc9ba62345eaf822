-- A part of a request by its place: what it asks for, where its bytes are, and where its places begin.
use Rattle.std.proofs.Common.{◌≡◌, ◌<◌, ◌≤◌, ℕ, zero, suc, ◌+◌, ◌-◌, ◌*◌, ◌/◌, ◌^◌, Bool, true, false, List, [], ◌∷◌, Some, refl, sym, ◌∙◌, ap, subst, arith, length, map, take, drop}
use Rattle.class_disk.proofs.Common.{mul-le-mul_right, drop-nil, range_with_len, drop-take, Extent, Payload, Kind, Read, Write, Flush, Request, Rules, place_count, as_client, is_transfer, Carries, IsBounded, transfer_length, FitsBlock, data_length, part_count_of, part_request_of, bytes_from, request_of_part, sectors_are}
use Rattle.std.specs.Prelude.{slice_get, slice_range, IsTrue, if◌then◌else◌}
use Rattle.split.specs.Pieces.{piece_of, piece_count}
use Rattle.irp.specs.declared.Payload.TheVariants.{Buffer, Srb as Packed, Sent as AtAdapter}
use Rattle.class_disk.specs.declared.parts.Part.{Part}
use Rattle.class_disk.proofs.Cutting.{piece_within, some_piece}

-- WHAT THE PARTS ASK FOR, by their places

pub asked_at : (f : ℕ → Request) (first n : ℕ) (parts : List Part) (k : ℕ) (part : Part)
    → map request_of_part parts ≡ map f (range_with_len first n) → slice_get parts k ≡ Some part → (part.request ≡ f (first + k)) × (k < n)
asked_at f first n [] k part are there = absurd (cc (there))
asked_at f first zero (p ∷ ps) k part are there = absurd (cc (are))
asked_at f first (suc n) (p ∷ ps) zero part are there =
    let head : p.request ≡ f first = cc (are) in
    let is : p ≡ part = cc (there) in
    (ap (λ (x : Part). x.request) (sym is) ∙ head ∙ ap f (omega arith), omega arith)
asked_at f first (suc n) (p ∷ ps) (suc k) part are there =
    let rest : map request_of_part ps ≡ map f (range_with_len (first + 1) n) = cc (are) in
    let r = asked_at f (first + 1) n ps k part rest there in
    (r.0 ∙ ap f (omega arith), let low = r.1 in omega arith)

pub as_many : (f : ℕ → Request) (first n : ℕ) (parts : List Part) → map request_of_part parts ≡ map f (range_with_len first n)
    → length parts ≡ n
as_many f first zero [] are = refl
as_many f first (suc n) [] are = absurd (cc (are))
as_many f first zero (p ∷ ps) are = absurd (cc (are))
as_many f first (suc n) (p ∷ ps) are =
    let rest : map request_of_part ps ≡ map f (range_with_len (first + 1) n) = cc (are) in
    let e = as_many f (first + 1) n ps rest in
    omega arith

-- those behind a place
pub asked_behind : (f : ℕ → Request) (first n : ℕ) (parts : List Part) (k m : ℕ) → map request_of_part parts ≡ map f
    (range_with_len first n)
    → k + m ≡ n → map request_of_part (drop k parts) ≡ map f (range_with_len (first + k) m)
asked_behind f first n parts zero m are is = are ∙ ap (λ i. map f (range_with_len first i)) (omega (arith, is))
    ∙ ap (λ i. map f (range_with_len i m)) (omega arith)
asked_behind f first zero [] (suc k) m are is = absurd (omega arith)
asked_behind f first (suc n) [] (suc k) m are is = absurd (cc (are))
asked_behind f first zero (p ∷ ps) (suc k) m are is = absurd (cc (are))
asked_behind f first (suc n) (p ∷ ps) (suc k) m are is =
    let rest : map request_of_part ps ≡ map f (range_with_len (first + 1) n) = cc (are) in
    asked_behind f (first + 1) n ps k m rest (omega (arith, is)) ∙ ap (λ i. map f (range_with_len i m)) (omega arith)

-- BYTES

pub inside_bytes : (at n count size : ℕ) → at + n ≤ count → at * size + n * size ≤ count * size
inside_bytes at n count size h = let m : (at + n) * size ≤ count * size = mul-le-mul_right size h in omega arith

take_more : {X : Type 0} (m r : ℕ) (xs : List X) → take m (take (m + r) xs) ≡ take m xs
take_more zero r xs = refl
take_more (suc m) r [] = let e : suc m + r ≡ suc (m + r) = omega arith in rw e refl
take_more (suc m) r (x ∷ xs) = let e : suc m + r ≡ suc (m + r) = omega arith in rw e (ap (λ ys. x ∷ ys) (take_more m r xs))

drop_more : {X : Type 0} (m n : ℕ) (xs : List X) → drop m (drop n xs) ≡ drop (n + m) xs
drop_more m zero xs = ap (λ i. drop i xs) (omega arith)
drop_more m (suc n) [] = drop-nil m ∙ sym (drop-nil (suc n + m))
drop_more m (suc n) (x ∷ xs) = let e : suc n + m ≡ suc (n + m) = omega arith in rw e (drop_more m n xs)

-- a range of a range
pub range_within : (xs : List ℕ) (p n i m : ℕ) → i + m ≤ n → slice_range (slice_range xs p (p + n)) i (i + m) ≡ slice_range xs (p + i) (p + i + m)
range_within xs p n i m inside =
    let a : p + n - p ≡ i + (m + (n - i - m)) = omega arith in
    let b : i + m - i ≡ m = omega arith in
    let c : p + i + m - (p + i) ≡ m = omega arith in
    ap (λ h. take (i + m - i) (drop i (take h (drop p xs)))) a
    ∙ ap (λ h. take h (drop i (take (i + (m + (n - i - m))) (drop p xs)))) b
    ∙ ap (take m) (drop-take i (m + (n - i - m)) (drop p xs))
    ∙ take_more m (n - i - m) (drop i (drop p xs))
    ∙ ap (take m) (drop_more i p xs)
    ∙ ap (λ h. take h (drop (p + i) xs)) (sym c)

-- a range of none
pub range_none : (a b c d : ℕ) → slice_range {X = ℕ} [] a b ≡ slice_range [] c d
range_none a b c d = none_of a (b - a) ∙ sym (none_of c (d - c))
  where
    none_of : (i n : ℕ) → ◌≡◌ {A = List ℕ} (take n (drop i [])) []
    none_of i n = ap (take n) (drop-nil {A = ℕ} i) ∙ nil_taken n
      where
        nil_taken : (m : ℕ) → ◌≡◌ {A = List ℕ} (take m []) []
        nil_taken zero = refl
        nil_taken (suc m) = refl

-- what a buffer carries
pub carried : (rules : Rules) (r : Request) (p : Payload) → Carries false rules r p → (bytes : List ℕ) × (p ≡ Buffer bytes) ×
    (length bytes ≡ transfer_length rules r)
carried rules r (Packed srb) c = absurd c
carried rules r (Buffer bytes) c = (bytes, refl, c)
carried rules r AtAdapter c = absurd c

-- a request within bounds has some place
pub places_some : (rules : Rules) → 0 < rules.sector_size → (r : Request) → IsBounded rules r → 0 < place_count rules (as_client rules r [])
places_some rules some r b = by (is_transfer r.kind) b.some
  where
    by : (moves : Bool) → (IsTrue moves → 0 < r.extent.count) → 0 < (if moves then r.extent.count * rules.sector_size / rules.sector_size else 1)
    by true more = let e = sectors_are r.extent.count rules.sector_size some in let m = more refl in omega arith
    by false more = omega arith

-- and some part
pub parts_some : (limit : ℕ) (r : Request) → 0 < limit → (IsTrue (is_transfer r.kind) → 0 < r.extent.count) → 0 < part_count_of limit r
parts_some limit r some more = by (is_transfer r.kind) more
  where
    by : (moves : Bool) → (IsTrue moves → 0 < r.extent.count) → 0 < (if moves then piece_count limit r.extent.count else 1)
    by true more = some_piece limit r.extent.count some (more refl)
    by false more = omega arith

-- A PART BY ITS PLACE

module _ (limit volume : ℕ) (extent : Extent) (through : Bool) (k : ℕ) (some : 0 < limit) (short : extent.count ≤ 2 ^ 16)
    (fits : extent.first + extent.count < 2 ^ 64) where
  abbrev asked : Kind → Request
  asked kind = record { volume = volume; kind = kind; extent = extent; through = through }

  pub fits_block : (kind : Kind) → k < part_count_of limit (asked kind) → FitsBlock (part_request_of limit (asked kind) k)
  fits_block Read low = let p = piece_within extent limit k some low in record { first = omega (arith, p.inside); count = omega (arith, p.as_short) }
  fits_block Write low = let p = piece_within extent limit k some low in record { first = omega (arith, p.inside); count = omega (arith, p.as_short) }
  fits_block Flush low = record { first = omega arith; count = omega arith }

  pub begins_behind : (kind : Kind) → extent.first ≤ (part_request_of limit (asked kind) k).extent.first
  begins_behind Read = omega arith
  begins_behind Write = omega arith
  begins_behind Flush = omega arith

  pub lies_inside : (kind : Kind) (size : ℕ) → k < part_count_of limit (asked kind) → kind ≡ Write
      → bytes_from size (asked kind) (part_request_of limit (asked kind) k) + data_length size
      (part_request_of limit (asked kind) k) ≤ data_length size (asked kind)
  lies_inside Read size low is = absurd (cc (is))
  lies_inside Flush size low is = absurd (cc (is))
  lies_inside Write size low is =
      let p = piece_within extent limit k some low in
      let at : extent.first + k * limit - extent.first ≡ k * limit = omega arith in
      let b = inside_bytes (k * limit) (piece_of extent limit k).count extent.count size (omega (arith, p.inside)) in
      subst (λ n. n * size + (piece_of extent limit k).count * size ≤ extent.count * size) (sym at) b
