-- A request all of whose parts succeeded: the sectors that it moved.
use Rattle.std.proofs.Common.{Bool, ◌≡◌, ◌<◌, ◌≤◌, ℕ, zero, suc, ◌+◌, ◌-◌, ◌*◌, ◌/◌, min, true, List, [], ◌∷◌, ◌++◌, refl, sym, ◌∙◌, ap, subst, arith, map, length, take, drop, length-append}
use Rattle.std.specs.Prelude.{All, if◌then◌else◌}
use Rattle.class_disk.proofs.Common.{list_all, concat, range_with_len, mul-div_cancel, length-map, map-append, All-head, All-tail, Kind, Read, Write, Flush, Request, Rules, place_count, as_client, is_transfer, Done, is_done, bytes_of_mark, payload_bytes, transfer_length, cut, piece_of, part_request_of, payload_in, joined_of, bytes_by, bytes_from, places_of, note, note_by, request_of_part, IsBuffered, IsBufferedBy, IsWrittenBy}
use Rattle.class_disk.specs.declared.parts.Part.{Part}
use Rattle.class_disk.specs.declared.parts.Progress.TheVariants.{Ended as PartEnded}
use Rattle.class_disk.proofs.EndedParts.{marks_noted, IsGoodPart}
use Rattle.std.proofs.lemmas.List.{nil_from_length}

-- BYTES CUT INTO SECTORS

pub length_cut : (n size : ℕ) (xs : List ℕ) → length (cut n size xs) ≡ n
length_cut zero size xs = refl
length_cut (suc n) size xs = ap suc (length_cut n size (drop size xs))

take_drop_left : (m : ℕ) (xs ys : List ℕ) → m ≤ length xs → take m (xs ++ ys) ≡ take m xs
take_drop_left zero xs ys h = refl
take_drop_left (suc m) [] ys h = absurd (omega arith)
take_drop_left (suc m) (x ∷ xs) ys h = ap (λ zs. x ∷ zs) (take_drop_left m xs ys (omega arith))

drop_left : (m : ℕ) (xs ys : List ℕ) → m ≤ length xs → drop m (xs ++ ys) ≡ drop m xs ++ ys
drop_left zero xs ys h = refl
drop_left (suc m) [] ys h = absurd (omega arith)
drop_left (suc m) (x ∷ xs) ys h = drop_left m xs ys (omega arith)

length_drop : (m : ℕ) (xs : List ℕ) → length (drop m xs) ≡ length xs - m
length_drop zero xs = omega arith
length_drop (suc m) [] = omega arith
length_drop (suc m) (x ∷ xs) = let e = length_drop m xs in omega arith

suc_times : (n size : ℕ) → suc n * size ≡ size + n * size
suc_times n size = omega arith

drop_drop : (m n : ℕ) (xs : List ℕ) → drop n (drop m xs) ≡ drop (m + n) xs
drop_drop zero n xs = ap (λ k. drop k xs) (omega arith)
drop_drop (suc m) n [] = none n ∙ sym (none (suc m + n))
  where
    none : (k : ℕ) → drop {A = ℕ} k [] ≡ []
    none zero = refl
    none (suc k) = refl
drop_drop (suc m) n (x ∷ xs) = let e : suc m + n ≡ suc (m + n) = omega arith in rw e (drop_drop m n xs)

-- bytes behind the sectors say nothing
cut_left : (n size : ℕ) (xs ys : List ℕ) → n * size ≤ length xs → cut n size (xs ++ ys) ≡ cut n size xs
cut_left zero size xs ys h = refl
cut_left (suc n) size xs ys h =
    let e = suc_times n size in
    let l = length_drop size xs in
    ap (λ zs. zs ∷ cut n size (drop size (xs ++ ys))) (take_drop_left size xs ys (omega arith))
    ∙ ap (λ zs. take size xs ∷ cut n size zs) (drop_left size xs ys (omega arith))
    ∙ ap (λ zs. take size xs ∷ zs) (cut_left n size (drop size xs) ys (omega arith))

-- some sectors, and those behind them
pub cut_more : (m n size : ℕ) (xs : List ℕ) → cut m size xs ++ cut n size (drop (m * size) xs) ≡ cut (m + n) size xs
cut_more zero n size xs = let e : zero + n ≡ n = omega arith in let z : zero * size ≡ 0 = omega arith in rw (e, z) refl
cut_more (suc m) n size xs =
    let e : suc m + n ≡ suc (m + n) = omega arith in
    ap (λ k. take size xs ∷ (cut m size (drop size xs) ++ cut n size (drop k xs))) (suc_times m size)
    ∙ ap (λ zs. take size xs ∷ (cut m size (drop size xs) ++ cut n size zs)) (sym (drop_drop size (m * size) xs))
    ∙ ap (λ zs. take size xs ∷ zs) (cut_more m n size (drop size xs))
    ∙ ap (λ k. cut k size xs) (sym e)

take_drop_is : (n : ℕ) (xs : List ℕ) → take n xs ++ drop n xs ≡ xs
take_drop_is zero xs = refl
take_drop_is (suc n) [] = refl
take_drop_is (suc n) (x ∷ xs) = ap (λ zs. x ∷ zs) (take_drop_is n xs)

-- only the bytes of the sectors say something
pub cut_taken : (n size : ℕ) (xs : List ℕ) → cut n size (take (n * size) xs) ≡ cut n size xs
cut_taken zero size xs = refl
cut_taken (suc n) size xs =
    let e = suc_times n size in
    ap (λ k. cut (suc n) size (take k xs)) e
    ∙ ap (λ zs. zs ∷ cut n size (drop size (take (size + n * size) xs))) (take_less size (n * size) xs)
    ∙ ap (λ zs. take size xs ∷ cut n size zs) (drop_taken size (n * size) xs)
    ∙ ap (λ zs. take size xs ∷ zs) (cut_taken n size (drop size xs))
  where
    take_less : (m k : ℕ) (xs : List ℕ) → take m (take (m + k) xs) ≡ take m xs
    take_less zero k xs = refl
    take_less (suc m) k [] = let e : suc m + k ≡ suc (m + k) = omega arith in rw e refl
    take_less (suc m) k (x ∷ xs) = let e : suc m + k ≡ suc (m + k) = omega arith in rw e (ap (λ zs. x ∷ zs) (take_less m k xs))

    drop_taken : (m k : ℕ) (xs : List ℕ) → drop m (take (m + k) xs) ≡ take k (drop m xs)
    drop_taken zero k xs = ap (λ n. take n xs) (omega arith)
    drop_taken (suc m) zero [] = let e : suc m + zero ≡ suc (m + zero) = omega arith in rw e refl
    drop_taken (suc m) (suc k) [] = let e : suc m + suc k ≡ suc (m + suc k) = omega arith in rw e refl
    drop_taken (suc m) k (x ∷ xs) = let e : suc m + k ≡ suc (m + k) = omega arith in rw e (drop_taken m k xs)

-- sectors joined again
pub concat_cut : (n size : ℕ) (xs : List ℕ) → length xs ≡ n * size → concat (map bytes_of_mark (map Done (cut n size xs))) ≡ xs
concat_cut zero size xs h = sym (nil_from_length xs (omega arith))
concat_cut (suc n) size xs h =
    let e = suc_times n size in
    let l = length_drop size xs in
    ap (λ zs. take size xs ++ zs) (concat_cut n size (drop size xs) (omega arith)) ∙ take_drop_is size xs

pub all_done_are : (sectors : List (List ℕ)) → list_all is_done (map Done sectors) ≡ true
all_done_are [] = refl
all_done_are (x ∷ sectors) = all_done_are sectors

-- PARTS

-- sectors of a transfer
pub whole_places : (rules : Rules) (part : Request) → 0 < rules.sector_size → is_transfer part.kind ≡ true → (place_count rules (as_client rules part []) ≡ part.extent.count) × (transfer_length rules part ≡ part.extent.count * rules.sector_size)
whole_places rules part some moves = (
  ap (λ b. if b then part.extent.count * rules.sector_size / rules.sector_size else 1) moves ∙ mul-div_cancel part.extent.count some,
  ap (λ b. if b then part.extent.count * rules.sector_size else 0) moves,
)

add_times : (m n size : ℕ) → (m + n) * size ≡ m * size + n * size
add_times m n size = omega arith

drop_none : (n : ℕ) → drop {A = ℕ} n [] ≡ []
drop_none zero = refl
drop_none (suc n) = refl

-- a part of a write that is not the last is as long as may be
pub record IsInRow (limit : ℕ) (r : Request) (total : ℕ) : Type 0 where
  pub is_write : r.kind ≡ Write
  pub some : (k : ℕ) → k < total → 0 < (piece_of r.extent limit k).count

pub write_request : (limit : ℕ) (r : Request) (k : ℕ) → r.kind ≡ Write → part_request_of limit r k ≡ record r { extent = piece_of r.extent limit k }
write_request limit r k kind = ap (λ b. if b then record r { extent = piece_of r.extent limit k } else r) (ap is_transfer kind)

module _ (rules : Rules) where
  -- as many places as these parts have
  abbrev pub places_in : List Part → ℕ
  places_in [] = 0
  places_in (part ∷ parts) = places_of rules part + places_in parts

  -- the marks of a part that succeeded, before those of the others
  good_marks : (part : Part) (parts : List Part) (h : IsGoodPart part)
      → marks_noted (map (note rules) (part ∷ parts)) ≡ map Done (cut (places_of rules part) rules.sector_size (payload_bytes (payload_in h.ended.packet))) ++ marks_noted (map (note rules) parts)
  good_marks part parts h =
      ap (λ p. marks_noted (note_by rules part p ∷ map (note rules) parts)) h.is
      ∙ ap (λ out. marks_noted (note_by rules part (PartEnded (record h.ended { outcome = out })) ∷ map (note rules) parts)) h.good

  pub places_marked : (parts : List Part) → All IsGoodPart parts → length (marks_noted (map (note rules) parts)) ≡ places_in parts
  places_marked [] h = refl
  places_marked (part ∷ parts) h =
      let g = All-head IsGoodPart part parts h in
      let rest = places_marked parts (All-tail IsGoodPart part parts h) in
      ap length (good_marks part parts g)
      ∙ length-append (map Done (cut (places_of rules part) rules.sector_size (payload_bytes (payload_in g.ended.packet)))) (marks_noted (map (note rules) parts))
      ∙ ap (λ n. n + length (marks_noted (map (note rules) parts))) (length-map (cut (places_of rules part) rules.sector_size (payload_bytes (payload_in g.ended.packet))) Done ∙ length_cut (places_of rules part) rules.sector_size (payload_bytes (payload_in g.ended.packet)))
      ∙ ap (λ n. places_of rules part + n) rest

  -- A READ

  abbrev pub IsOfKind : Kind → Part → Type 0
  IsOfKind kind part = part.request.kind ≡ kind

  joined_first : (part : Part) (parts : List Part) (h : IsGoodPart part) → joined_of (part ∷ parts) ≡ payload_bytes (payload_in h.ended.packet) ++ joined_of parts
  joined_first part parts h = ap (λ p. bytes_by p ++ joined_of parts) h.is

  -- what a part of a read brought
  filled : 0 < rules.sector_size → (only : Bool) (part : Part) (h : IsGoodPart part) → IsOfKind Read part → IsBuffered rules only part → length (payload_bytes (payload_in h.ended.packet)) ≡ places_of rules part * rules.sector_size
  filled some only part h kind buffered =
      let b : IsBufferedBy rules only part.request (PartEnded h.ended) = subst (IsBufferedBy rules only part.request) h.is buffered in
      let w = whole_places rules part.request some (ap is_transfer kind) in
      b.0 h.good kind ∙ w.1 ∙ ap (λ n. n * rules.sector_size) (sym w.0)

  pub joined_long : 0 < rules.sector_size → (only : Bool) (parts : List Part) → All IsGoodPart parts → All (IsOfKind Read) parts → All (IsBuffered rules only) parts → length (joined_of parts) ≡ places_in parts * rules.sector_size
  joined_long some only [] good kind buffered = omega arith
  joined_long some only (part ∷ parts) good kind buffered =
      let g = All-head IsGoodPart part parts good in
      let a = filled some only part g (All-head (IsOfKind Read) part parts kind) (All-head (IsBuffered rules only) part parts buffered) in
      let b = joined_long some only parts (All-tail IsGoodPart part parts good) (All-tail (IsOfKind Read) part parts kind) (All-tail (IsBuffered rules only) part parts buffered) in
      let e = add_times (places_of rules part) (places_in parts) rules.sector_size in
      ap length (joined_first part parts g) ∙ length-append (payload_bytes (payload_in g.ended.packet)) (joined_of parts) ∙ omega (arith, a, b, e)

  pub read_marks : 0 < rules.sector_size → (only : Bool) (parts : List Part) → All IsGoodPart parts → All (IsOfKind Read) parts → All (IsBuffered rules only) parts
      → marks_noted (map (note rules) parts) ≡ map Done (cut (places_in parts) rules.sector_size (joined_of parts))
  read_marks some only [] good kind buffered = refl
  read_marks some only (part ∷ parts) good kind buffered =
      let g = All-head IsGoodPart part parts good in
      let size : ℕ = rules.sector_size in
      let bytes : List ℕ = payload_bytes (payload_in g.ended.packet) in
      let n : ℕ = places_of rules part in
      let a : length bytes ≡ n * size = filled some only part g (All-head (IsOfKind Read) part parts kind) (All-head (IsBuffered rules only) part parts buffered) in
      let b = read_marks some only parts (All-tail IsGoodPart part parts good) (All-tail (IsOfKind Read) part parts kind) (All-tail (IsBuffered rules only) part parts buffered) in
      let first : cut n size bytes ≡ cut n size (bytes ++ joined_of parts) = sym (cut_left n size bytes (joined_of parts) (omega (arith, a))) in
      let behind : joined_of parts ≡ drop (n * size) (bytes ++ joined_of parts) =
      sym (drop_left (n * size) bytes (joined_of parts) (omega (arith, a)) ∙ ap (λ zs. zs ++ joined_of parts) (nil_from_length (drop (n * size) bytes) (length_drop (n * size) bytes ∙ omega (arith, a)))) in
      good_marks part parts g ∙ ap (λ zs. map Done (cut n size bytes) ++ zs) b
      ∙ ap (λ zs. map Done zs ++ map Done (cut (places_in parts) size (joined_of parts))) first
      ∙ ap (λ zs. map Done (cut n size (bytes ++ joined_of parts)) ++ map Done (cut (places_in parts) size zs)) behind
      ∙ sym (map-append Done (cut n size (bytes ++ joined_of parts)) (cut (places_in parts) size (drop (n * size) (bytes ++ joined_of parts))))
      ∙ ap (map Done) (cut_more n (places_in parts) size (bytes ++ joined_of parts))
      ∙ ap (λ zs. map Done (cut (n + places_in parts) size zs)) (sym (joined_first part parts g))

  -- A FLUSH

  pub flush_marks : (only : Bool) (parts : List Part) → All IsGoodPart parts → All (IsOfKind Flush) parts → All (IsBuffered rules only) parts
      → marks_noted (map (note rules) parts) ≡ map Done (cut (places_in parts) rules.sector_size [])
  flush_marks only [] good kind buffered = refl
  flush_marks only (part ∷ parts) good kind buffered =
      let g = All-head IsGoodPart part parts good in
      let size : ℕ = rules.sector_size in
      let n : ℕ = places_of rules part in
      let buf : IsBufferedBy rules only part.request (PartEnded g.ended) = subst (IsBufferedBy rules only part.request) g.is (All-head (IsBuffered rules only) part parts buffered) in
      let none : payload_bytes (payload_in g.ended.packet) ≡ [] = buf.1 (All-head (IsOfKind Flush) part parts kind) in
      let b = flush_marks only parts (All-tail IsGoodPart part parts good) (All-tail (IsOfKind Flush) part parts kind) (All-tail (IsBuffered rules only) part parts buffered) in
      good_marks part parts g ∙ ap (λ zs. map Done (cut n size zs) ++ marks_noted (map (note rules) parts)) none
      ∙ ap (λ zs. map Done (cut n size []) ++ zs) b
      ∙ ap (λ zs. map Done (cut n size []) ++ map Done (cut (places_in parts) size zs)) (sym (drop_none (n * size)))
      ∙ sym (map-append Done (cut n size []) (cut (places_in parts) size (drop {A = ℕ} (n * size) [])))
      ∙ ap (map Done) (cut_more n (places_in parts) size [])

  -- A WRITE

  abbrev pub IsWrittenPart : Request → List ℕ → Part → Type 0
  IsWrittenPart r bytes part = IsWrittenBy rules r bytes part.request part.progress

  -- the sectors of one part are those of the request from its place on
  written_part : 0 < rules.sector_size → (r : Request) (bytes : List ℕ) (part : Part) (h : IsGoodPart part) → IsOfKind Write part → IsWrittenPart r bytes part
      → (at : ℕ) → bytes_from rules.sector_size r part.request ≡ at → cut (places_of rules part) rules.sector_size (payload_bytes (payload_in h.ended.packet)) ≡ cut (places_of rules part) rules.sector_size (drop at bytes)
  written_part some r bytes part h kind written at is_at =
      let size : ℕ = rules.sector_size in
      let n : ℕ = places_of rules part in
      let w = whole_places rules part.request some (ap is_transfer kind) in
      let long : transfer_length rules part.request ≡ n * size = w.1 ∙ ap (λ k. k * size) (sym w.0) in
      let b : IsWrittenBy rules r bytes part.request (PartEnded h.ended) = subst (IsWrittenBy rules r bytes part.request) h.is written in
      let taken : take (n * size) (payload_bytes (payload_in h.ended.packet)) ≡ take (n * size) (drop at bytes) =
      ap (λ k. take k (payload_bytes (payload_in h.ended.packet))) (sym long) ∙ (b kind).0
      ∙ ap (λ k. take k (drop (bytes_from size r part.request) bytes)) (omega (arith, long))
      ∙ ap (λ k. take (n * size) (drop k bytes)) is_at in
      sym (cut_taken n size (payload_bytes (payload_in h.ended.packet))) ∙ ap (λ zs. cut n size zs) taken ∙ cut_taken n size (drop at bytes)

  pub write_marks : 0 < rules.sector_size → (limit : ℕ) (r : Request) (bytes : List ℕ) (total : ℕ) → IsInRow limit r total → (first n : ℕ) → first + n ≡ total → (parts : List Part)
      → map request_of_part parts ≡ map (part_request_of limit r) (range_with_len first n) → All IsGoodPart parts → All (IsWrittenPart r bytes) parts
      → marks_noted (map (note rules) parts) ≡ map Done (cut (places_in parts) rules.sector_size (drop (first * limit * rules.sector_size) bytes))
  write_marks some limit r bytes total row first zero all [] same good written = refl
  write_marks some limit r bytes total row first (suc n) all [] same good written = absurd (cc (same))
  write_marks some limit r bytes total row first zero all (part ∷ parts) same good written = absurd (cc (same))
  write_marks some limit r bytes total row first (suc n) all (part ∷ parts) same good written =
      let g = All-head IsGoodPart part parts good in
      let size : ℕ = rules.sector_size in
      let p : ℕ = places_of rules part in
      let own : part.request ≡ record r { extent = piece_of r.extent limit first } = heads same ∙ write_request limit r first row.is_write in
      let kind : part.request.kind ≡ Write = ap (λ (q : Request). q.kind) own ∙ row.is_write in
      let count : p ≡ min limit (r.extent.count - first * limit) = (whole_places rules part.request some (ap is_transfer kind)).0 ∙ ap (λ (q : Request). q.extent.count) own in
      let begins : part.request.extent.first ≡ r.extent.first + first * limit = ap (λ (q : Request). q.extent.first) own in
      let at : bytes_from size r part.request ≡ first * limit * size = ap (λ k. k * size) (let b = begins in omega (arith, b)) in
      let mine = written_part some r bytes part g kind (All-head (IsWrittenPart r bytes) part parts written) (first * limit * size) at in
      let rest = write_marks some limit r bytes total row (first + 1) n (omega arith) parts (tails same) (All-tail IsGoodPart part parts good) (All-tail (IsWrittenPart r bytes) part parts written) in
      let from : List ℕ = drop (first * limit * size) bytes in
      good_marks part parts g ∙ ap (λ zs. map Done zs ++ marks_noted (map (note rules) parts)) mine
      ∙ ap (λ zs. map Done (cut p size from) ++ zs) (rest ∙ behind n parts (tails same) (omega arith) p count)
      ∙ sym (map-append Done (cut p size from) (cut (places_in parts) size (drop (p * size) from)))
      ∙ ap (map Done) (cut_more p (places_in parts) size from)
    where
      heads : {X : Type 0} {x y : X} {xs ys : List X} → x ∷ xs ≡ y ∷ ys → x ≡ y
      heads {X} {x} {y} {xs} {ys} e = cc (e)

      tails : {X : Type 0} {x y : X} {xs ys : List X} → x ∷ xs ≡ y ∷ ys → xs ≡ ys
      tails {X} {x} {y} {xs} {ys} e = cc (e)

      behind : (n : ℕ) (parts : List Part) → map request_of_part parts ≡ map (part_request_of limit r) (range_with_len (first + 1) n) → first + suc n ≡ total → (p : ℕ) → p ≡ min limit (r.extent.count - first * limit)
          → map Done (cut (places_in parts) rules.sector_size (drop ((first + 1) * limit * rules.sector_size) bytes)) ≡ map Done (cut (places_in parts) rules.sector_size (drop (p * rules.sector_size) (drop (first * limit * rules.sector_size) bytes)))
      behind zero [] same all p count = refl
      behind zero (x ∷ parts) same all p count = absurd (cc (same))
      behind (suc n) parts same all p count =
          let s : 0 < min limit (r.extent.count - (first + 1) * limit) = row.some (first + 1) (omega arith) in
          let m : (first + 1) * limit ≡ first * limit + limit = omega arith in
          let full : p ≡ limit = omega (arith, s, m, count) in
          let at : (first + 1) * limit * rules.sector_size ≡ first * limit * rules.sector_size + p * rules.sector_size = ap (λ k. k * rules.sector_size) (m ∙ omega (arith, full)) ∙ add_times (first * limit) p rules.sector_size in
          ap (λ k. map Done (cut (places_in parts) rules.sector_size (drop k bytes))) at
          ∙ ap (λ zs. map Done (cut (places_in parts) rules.sector_size zs)) (sym (drop_drop (first * limit * rules.sector_size) (p * rules.sector_size) bytes))
