-- A request that the class driver takes can be cut, and the layer below takes each part.
use Rattle.std.proofs.Common.{◌≡◌, ◌<◌, ◌≤◌, ◌⊎◌, inl, inr, ℕ, zero, suc, ◌+◌, ◌*◌, ◌/◌, ◌%◌, ◌^◌, ◌==◌, Bool, true, false, List, [], ◌∷◌, Some, rules, tests, refl, sym, ap, subst, arith, length, if◌then◌else◌}
use Rattle.class_disk.proofs.Common.{mul-le-mul_right, mul-le-mul_left, mod-add-div', mod-lt, Extent, Kind, Read, Write, Flush, Request, Rules, is_transfer, sectors_of, DeviceView, IsBounded, IsOrderly, Sizes, part_count_of, part_request_of, AreSizes, class_rules, IsPort, CanCut}
use Rattle.split.specs.Pieces.{piece_count, piece_of}

-- the pieces are all whole, or one more
pub whole_or_more : (whole left : ℕ)
    → ((left ≡ 0) × (whole + (if left == 0 then 0 else 1) ≡ whole)) ⊎ ((0 < left) × (whole + (if left == 0 then 0 else 1) ≡ whole + 1))
whole_or_more whole zero = inl (refl, omega arith)
whole_or_more whole (suc left) =
    let more : (suc left == 0) ≡ false = search (rules, tests) in
    inr (omega arith, ap (λ b. whole + (if b then 0 else 1)) more)

-- a piece begins inside
pub begins_within : (limit count k : ℕ) → 0 < limit → k < piece_count limit count → k * limit < count
begins_within limit count k some below =
    let e = mod-add-div' count limit in
    let r = mod-lt count some in
    elim (whole_or_more (count / limit) (count % limit)) [
      | inl (none, is) ↦ let m : (k + 1) * limit ≤ count / limit * limit = mul-le-mul_right limit (omega arith) in omega arith
      | inr (more, is) ↦ let m : k * limit ≤ count / limit * limit = mul-le-mul_right limit (omega arith) in omega arith
    ]

-- some sectors make some piece
pub some_piece : (limit count : ℕ) → 0 < limit → 0 < count → 0 < piece_count limit count
some_piece limit count some more =
    let e = mod-add-div' count limit in
    elim (whole_or_more (count / limit) (count % limit)) [
      | inl (none, is) ↦ absurd_zero (count / limit) limit (piece_count limit count) is (omega arith)
      | inr (left, is) ↦ omega arith
    ]
  where
    absurd_zero : (whole size pieces : ℕ) → pieces ≡ whole → 0 < whole * size → 0 < pieces
    absurd_zero zero size pieces is h = absurd (omega arith)
    absurd_zero (suc whole) size pieces is h = omega arith

-- there are no more pieces than sectors
few_pieces : (limit count n : ℕ) → 0 < limit → n ≡ piece_count limit count → n ≤ count
few_pieces limit count zero some is = omega arith
few_pieces limit count (suc n) some is =
    let w : n * limit < count = begins_within limit count n some (omega arith) in
    let m : n * 1 ≤ n * limit = mul-le-mul_left n (omega arith) in
    omega arith

-- a part of an extent lies inside it, and has some sectors
pub record IsPieceWithin (extent : Extent) (limit : ℕ) (piece : Extent) : Type 0 where
  pub some : 0 < piece.count
  pub short : piece.count ≤ limit
  pub as_short : piece.count ≤ extent.count
  pub inside : piece.first + piece.count ≤ extent.first + extent.count

pub piece_within : (extent : Extent) (limit k : ℕ) → 0 < limit → k < piece_count limit extent.count
    → IsPieceWithin extent limit (piece_of extent limit k)
piece_within extent limit k some below =
    let w : k * limit < extent.count = begins_within limit extent.count k some below in
    record { some = omega arith; short = omega arith; as_short = omega arith; inside = omega arith }

few_bytes : (n bytes : ℕ) → n ≤ 2 ^ 16 → bytes ≤ 4096 → n * bytes < 2 ^ 64
few_bytes n bytes a b = let m : n * bytes ≤ n * 4096 = mul-le-mul_left n b in omega arith

-- the parts of a request by its kind
module _ (rules : Rules) (limit : ℕ) (volume : ℕ) (extent : Extent) (through : Bool) where
  abbrev asked : Kind → Request
  asked kind = record { volume = volume; kind = kind; extent = extent; through = through }

  few_parts : (kind : Kind) → 0 < limit → extent.count ≤ 2 ^ 16 → part_count_of limit (asked kind) ≤ 2 ^ 16
  few_parts Read some short = let f = few_pieces limit extent.count _ some refl in omega arith
  few_parts Write some short = let f = few_pieces limit extent.count _ some refl in omega arith
  few_parts Flush some short = omega arith

  bounded_piece : (kind : Kind) (k : ℕ) → is_transfer kind ≡ true → 0 < limit → limit ≤ rules.longest → k < piece_count limit extent.count
      → IsBounded (class_rules rules) (asked kind) → IsBounded rules (record (asked kind) { extent = piece_of extent limit k })
  bounded_piece kind k moves some fits below b =
      let p = piece_within extent limit k some below in
      record {
        known = b.known;
        some = λ is. p.some;
        none = λ is. absurd (cc (is, moves));
        inside = omega (arith, p.inside, b.inside);
        short = omega (arith, p.short);
      }

  bounded_part : (kind : Kind) (k : ℕ) → 0 < limit → limit ≤ rules.longest → k < part_count_of limit (asked kind)
      → IsBounded (class_rules rules) (asked kind) → IsBounded rules (part_request_of limit (asked kind) k)
  bounded_part Read k some fits below b = bounded_piece Read k refl some fits below b
  bounded_part Write k some fits below b = bounded_piece Write k refl some fits below b
  bounded_part Flush k some fits below b =
      let none : extent.count ≡ 0 = b.none refl in
      record { known = b.known; some = λ is. absurd (cc (is)); none = b.none; inside = b.inside; short = omega arith }

  small_part : (kind : Kind) (k bytes : ℕ) → 0 < limit → bytes ≤ 4096 → extent.count ≤ 2 ^ 16 → k < part_count_of limit (asked kind)
      → (part_request_of limit (asked kind) k).extent.count * bytes < 2 ^ 64
  small_part Read k bytes some few short below =
      let p = piece_within extent limit k some below in few_bytes _ bytes (omega (arith, p.as_short)) few
  small_part Write k bytes some few short below =
      let p = piece_within extent limit k some below in few_bytes _ bytes (omega (arith, p.as_short)) few
  small_part Flush k bytes some few short below = few_bytes extent.count bytes short few

-- the sectors of the one volume
pub one_volume : (rules : Rules) (n volume : ℕ) (partitions : List Extent) → partitions ≡ record { first = 0; count = n } ∷ []
    → volume < length partitions
    → sectors_of (record rules { partitions = partitions }) (Some volume) ≡ n
one_volume rules n volume partitions is below =
    subst (λ (ps : List Extent). volume < length ps → sectors_of (record rules { partitions = ps }) (Some volume) ≡ n) (sym is)
    (only volume) below
  where
    only : (w : ℕ) → w < 1 → sectors_of (record rules { partitions = record { first = 0; count = n } ∷ [] }) (Some w) ≡ n
    only zero low = refl
    only (suc w) low = absurd (omega arith)

-- where the class driver is in order, and the layer below
pub can_cut : (v : DeviceView) (sizes : Sizes) (r : Request) → IsPort v.rules → IsOrderly v → AreSizes sizes (class_rules v.rules)
    → IsBounded (class_rules v.rules) r → CanCut sizes v.rules r
can_cut v sizes r port order are b =
    let limit : sizes.max_transfer ≡ v.rules.max_transfer = are.max_transfer in
    let some : 0 < sizes.max_transfer = let s = port.some_transfer in omega arith in
    let long : sizes.max_transfer ≤ v.rules.longest = let e = port.longest in omega arith in
    let short : r.extent.count ≤ 2 ^ 16 = b.short in
    let bytes : sizes.sector_size ≤ 4096 =
    let a = order.adapter.sector_size in let e = order.read.same_size in let f = are.sector_size in omega arith in
    let ends : sectors_of (class_rules v.rules) (Some r.volume) ≤ 2 ^ 40 =
    let e : sectors_of v.rules (Some r.volume) ≡ v.rules.disk_sectors =
    one_volume v.rules v.rules.disk_sectors r.volume v.rules.partitions port.one_disk b.known in
    let a = order.adapter.sectors.1 in let f = order.read.same_sectors in omega arith in
    record {
      sizes_are = record {
        sector_size = are.sector_size;
        max_transfer = are.max_transfer;
        whole = record { as_many = are.whole.as_many; one_disk = are.whole.one_disk; some_bytes = are.whole.some_bytes };
        keeps_bytes = are.keeps_bytes;
      };
      cuttable = record { some = some; fits = let i = b.inside in omega arith };
      count = few_parts v.rules sizes.max_transfer r.volume r.extent r.through r.kind some short;
      bounded = λ k below. bounded_part v.rules sizes.max_transfer r.volume r.extent r.through r.kind k some long below b;
      small = λ k below.
          small_part v.rules sizes.max_transfer r.volume r.extent r.through r.kind k sizes.sector_size some bytes short below;
    }
