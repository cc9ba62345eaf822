-- A request on the bytes of a volume.
use Rattle.volume.proofs.Common.{◌≡◌, ◌<◌, ◌≤◌, ◌⊎◌, inl, inr, ℕ, ◌+◌, ◌*◌, ◌/◌, ◌%◌, Bool, true, false, List, [], Some, refl, sym, ◌∙◌, ap, subst, arith, length, get_or, All, IsTrue, IsFalse, slice_get, slice_range, ◌&&◌, ◌==◌, nat_le, unwrap_or, concat, mul-le-mul_right, le_of_mul-le-mul_right, mod-add-div', cases_lt, slice_get-get_or, nat_tests, Extent, IsSector, splice, ClientRequest, IsPartition, Rules, is_transfer, is_in_bounds, first_sector, place_count, sectors_of, bytes_for, ManagerView, extent_at, parted_at, content_of, IsReady, ChangesSome, Leaves, disk_first, sectors_on}
use Rattle.volume.specs.Calls.{AreInBounds, AreMixed, sector_of}
use Rattle.volume.proofs.Disk.{sectors_of-extent, slice_get-range}
use Rattle.volume.proofs.Ending.{Fits, fits, count_is}
use Rattle.volume.proofs.Bytes.{Elsewhere, around, bytes_read, length_bytes, sector_at_place, sector_past, whole_range}

pub all_true : (a b c d : Bool) → a ≡ true → b ≡ true → c ≡ true → d ≡ true → ((a && b) && (c && d)) ≡ true
all_true true true true true p q r s = refl
all_true false b c d p q r s = absurd (let k : false ≡ true = p in cc)
all_true true false c d p q r s = absurd (let k : false ≡ true = q in cc)
all_true true true false d p q r s = absurd (let k : false ≡ true = r in cc)
all_true true true true false p q r s = absurd (let k : false ≡ true = s in cc)

pub zero_true : (n : ℕ) → n ≡ 0 → (n == 0) ≡ true
zero_true n h = grind (arith, nat_tests)

pub at_most_true : (m n : ℕ) → m ≤ n → nat_le m n ≡ true
at_most_true m n h = grind (arith, nat_tests)

whole_count : (bytes size : ℕ) → bytes % size ≡ 0 → bytes ≡ bytes / size * size
whole_count bytes size e = omega (arith, e, mod-add-div' bytes size)

some_item : (xs : List (List ℕ)) (i : ℕ) → i < length xs → (x : List ℕ) × (slice_get xs i ≡ Some x)
some_item xs i low = (get_or xs i [], slice_get-get_or xs i [] low)

pub some_bytes : (size : ℕ) → (size ≡ 512) ⊎ (size ≡ 4096) → 0 < size
some_bytes size (inl e) = omega arith
some_bytes size (inr e) = omega arith

module _ (v : ManagerView) (ready : IsReady v) (p : ℕ) (known : p < length v.rules.partitions) (q : ClientRequest) (is : q.partition ≡ Some p) where
  abbrev size : ℕ
  size = v.rules.sector_size

  abbrev e : Extent
  e = extent_at v.rules.partitions p

  abbrev a : ℕ
  a = first_sector v.rules q

  abbrev n : ℕ
  n = q.length / v.rules.sector_size

  pub in_disk : e.first + e.count ≤ length v.adapter.sectors
  in_disk =
      let part : IsPartition v.rules.disk_sectors e = ready.usable.partitions p (record { first = 0; count = 0 }) known in
      let i : e.first + e.count ≤ v.rules.disk_sectors = part.inside in
      let s : v.rules.disk_sectors ≡ length v.adapter.sectors = ready.read.same_sectors in
      omega arith

  pub bytes_counted : length (content_of v p).bytes ≡ e.count * size
  bytes_counted = length_bytes size v.adapter.sectors e.first e.count in_disk ready.whole_sectors

  some : 0 < size
  some = some_bytes size ready.usable.sector_size

  pub in_content : IsTrue (is_in_bounds v.rules q) → AreInBounds (content_of v p) q.offset q.length
  in_content h =
      let f : Fits v.rules q p = fits v.rules q p is h in
      let o : q.offset ≡ a * size = whole_count q.offset size f.begins in
      let l : q.length ≡ n * size = whole_count q.length size f.ends in
      let m : (a + n) * size ≤ e.count * size = mul-le-mul_right size f.inside in
      let s : n * size ≤ 65536 * size = mul-le-mul_right size (subst (λ most. n ≤ most) ready.usable.longest f.short) in
      let t : (a + n) * size ≡ a * size + n * size = omega arith in
      record {
        begins = f.begins;
        ends = f.ends;
        inside = subst (λ k. q.offset + q.length ≤ k) (sym bytes_counted) (omega arith);
        short = omega arith;
      }

  pub out_of_content : IsFalse (is_in_bounds v.rules q) → AreInBounds (content_of v p) q.offset q.length → ⊥
  out_of_content out h =
      let o : q.offset ≡ a * size = whole_count q.offset size h.begins in
      let l : q.length ≡ n * size = whole_count q.length size h.ends in
      let i : q.offset + q.length ≤ e.count * size = subst (λ k. q.offset + q.length ≤ k) bytes_counted h.inside in
      let t : (a + n) * size ≡ a * size + n * size = omega arith in
      let inside : a + n ≤ e.count = le_of_mul-le-mul_right (omega arith) some in
      let s : q.length ≤ 65536 * size = h.short in
      let short : n ≤ 65536 = le_of_mul-le-mul_right (omega arith) some in
      let count : sectors_of v.rules q.partition ≡ e.count = ap (λ o. sectors_of v.rules o) is ∙ sectors_of-extent v.rules p in
      let in' : is_in_bounds v.rules q ≡ true =
      all_true (q.offset % size == 0) (q.length % size == 0) (nat_le (a + n) (sectors_of v.rules q.partition)) (nat_le n v.rules.longest)
      (zero_true _ h.begins) (zero_true _ h.ends) (at_most_true _ _ (subst (λ k. a + n ≤ k) (sym count) inside))
      (at_most_true _ _ (subst (λ k. n ≤ k) (sym ready.usable.longest) short)) in
      let k : false ≡ true = sym out ∙ in' in cc

  first_is : disk_first v.rules q ≡ e.first + a
  first_is = ap (λ m. (extent_at v.rules.partitions m).first + a) (ap (λ o. unwrap_or o 0) is)

  sectors_are : (sectors : List (List ℕ)) → IsTrue (is_transfer q.kind) → sectors_on v.rules q sectors ≡ slice_range sectors (e.first + a) (e.first + a + n)
  sectors_are sectors transfer =
      ap (λ f. slice_range sectors f (f + place_count v.rules q)) first_is
      ∙ ap (λ c. slice_range sectors (e.first + a) (e.first + a + c)) (count_is v.rules q transfer)

  -- the bytes of its sectors
  pub read_content : IsTrue (is_transfer q.kind) → IsTrue (is_in_bounds v.rules q) → concat (sectors_on v.rules q v.adapter.sectors) ≡ slice_range (content_of v p).bytes q.offset (q.offset + q.length)
  read_content transfer h =
      let f : Fits v.rules q p = fits v.rules q p is h in
      let o : a * size ≡ q.offset = sym (whole_count q.offset size f.begins) in
      let l : n * size ≡ q.length = sym (whole_count q.length size f.ends) in
      ap concat (sectors_are v.adapter.sectors transfer)
      ∙ bytes_read size v.adapter.sectors e a n ready.whole_sectors in_disk f.inside
      ∙ ap (λ m. slice_range (content_of v p).bytes m (m + n * size)) o
      ∙ ap (λ m. slice_range (content_of v p).bytes q.offset (q.offset + m)) l

  module _ (new : ManagerView) (leaves : Leaves v new) where
    pub same_content : new.adapter.sectors ≡ v.adapter.sectors → content_of new p ≡ content_of v p
    same_content same =
        ap (λ (r : Rules). parted_at r.sector_size new.adapter.sectors (extent_at r.partitions p)) leaves.same_rules
        ∙ ap (λ xs. parted_at size xs e) same

    new_whole : All (IsSector size) new.adapter.sectors
    new_whole = subst (λ (r : Rules). All (IsSector r.sector_size) new.adapter.sectors) leaves.same_rules leaves.ready.whole_sectors

    new_long : length new.adapter.sectors ≡ length v.adapter.sectors
    new_long = sym leaves.ready.read.same_sectors ∙ ap (λ (r : Rules). r.disk_sectors) leaves.same_rules ∙ ready.read.same_sectors

    moved : List (List ℕ)
    moved = slice_range new.adapter.sectors (e.first + a) (e.first + a + n)

    -- what a write leaves
    pub write_content : IsTrue (is_transfer q.kind) → IsTrue (is_in_bounds v.rules q) → ChangesSome v.rules q v.adapter.sectors new.adapter.sectors
        → content_of new p ≡ record (content_of v p) { bytes = splice (content_of v p).bytes q.offset (concat (sectors_on v.rules q new.adapter.sectors)) }
    write_content transfer h changes =
        let f : Fits v.rules q p = fits v.rules q p is h in
        let o : a * size ≡ q.offset = sym (whole_count q.offset size f.begins) in
        let place : disk_first v.rules q ≡ e.first + a = first_is in
        let count : place_count v.rules q ≡ n = count_is v.rules q transfer in
        let d : e.first + e.count ≤ length v.adapter.sectors = in_disk in
        let w : length new.adapter.sectors ≡ length v.adapter.sectors = new_long in
        let i : a + n ≤ e.count = f.inside in
        let long : length (concat (slice_range new.adapter.sectors (e.first + a) (e.first + a + n))) ≡ n * size =
        length_bytes size new.adapter.sectors (e.first + a) n (omega arith) new_whole in
        let elsewhere : Elsewhere v.adapter.sectors new.adapter.sectors (e.first + a) n = record { same = λ j out. changes.elsewhere j (outside j place count out) } in
        ap (λ (r : Rules). parted_at r.sector_size new.adapter.sectors (extent_at r.partitions p)) leaves.same_rules
        ∙ around v.adapter.sectors new.adapter.sectors size e a n i d ready.whole_sectors long elsewhere
        ∙ ap (λ m. record (content_of v p) { bytes = splice (content_of v p).bytes m (concat (slice_range new.adapter.sectors (e.first + a) (e.first + a + n))) }) o
        ∙ ap (λ xs. record (content_of v p) { bytes = splice (content_of v p).bytes q.offset (concat xs) }) (sym (sectors_are new.adapter.sectors transfer))
      where
        outside : (j : ℕ) → disk_first v.rules q ≡ e.first + a → place_count v.rules q ≡ n → (j < e.first + a) ⊎ (e.first + a + n ≤ j) → (j < disk_first v.rules q) ⊎ (disk_first v.rules q + place_count v.rules q ≤ j)
        outside j place count (inl low) = inl (omega arith)
        outside j place count (inr past) = inr (omega arith)

    -- sector by sector
    pub mixed_content : IsTrue (is_transfer q.kind) → IsTrue (is_in_bounds v.rules q) → length q.bytes ≡ q.length → ChangesSome v.rules q v.adapter.sectors new.adapter.sectors
        → AreMixed size (slice_range (content_of v p).bytes q.offset (q.offset + length q.bytes)) q.bytes (concat (sectors_on v.rules q new.adapter.sectors))
    mixed_content transfer h carried changes =
        let f : Fits v.rules q p = fits v.rules q p is h in
        let count : place_count v.rules q ≡ n = count_is v.rules q transfer in
        let first : disk_first v.rules q ≡ e.first + a = first_is in
        let d : e.first + e.count ≤ length v.adapter.sectors = in_disk in
        let w : length new.adapter.sectors ≡ length v.adapter.sectors = new_long in
        let i : a + n ≤ e.count = f.inside in
        let l : q.length ≡ n * size = whole_count q.length size f.ends in
        let c : ℕ = place_count v.rules q in
        let new_bytes : length (concat (sectors_on v.rules q new.adapter.sectors)) ≡ c * size = length_bytes size new.adapter.sectors (disk_first v.rules q) c (omega arith) new_whole in
        let old_bytes : length (concat (sectors_on v.rules q v.adapter.sectors)) ≡ c * size = length_bytes size v.adapter.sectors (disk_first v.rules q) c (omega arith) ready.whole_sectors in
        let all : length q.bytes ≡ c * size = carried ∙ l ∙ ap (λ k. k * size) (sym count) in
        let before : slice_range (content_of v p).bytes q.offset (q.offset + length q.bytes) ≡ concat (sectors_on v.rules q v.adapter.sectors) =
        ap (λ k. slice_range (content_of v p).bytes q.offset (q.offset + k)) carried ∙ sym (read_content transfer h) in
        record {
          long = new_bytes ∙ sym all;
          each = λ k. subst (λ old. (sector_of size k (concat (sectors_on v.rules q new.adapter.sectors)) ≡ sector_of size k old) ⊎ (sector_of size k (concat (sectors_on v.rules q new.adapter.sectors)) ≡ sector_of size k q.bytes))
              (sym before) (at k new_bytes old_bytes (omega arith) (omega arith));
        }
      where
        there : (sectors : List (List ℕ)) (k : ℕ) → k < place_count v.rules q → disk_first v.rules q + place_count v.rules q ≤ length sectors → All (IsSector size) sectors
            → (x : List ℕ) → slice_get sectors (disk_first v.rules q + k) ≡ Some x → sector_of size k (concat (sectors_on v.rules q sectors)) ≡ x
        there sectors k low room all_whole x at' =
            sector_at_place size (sectors_on v.rules q sectors) k x (whole_range size sectors (disk_first v.rules q) (disk_first v.rules q + place_count v.rules q) all_whole)
            (slice_get-range sectors (disk_first v.rules q) (place_count v.rules q) k low ∙ at')

        at : (k : ℕ) → length (concat (sectors_on v.rules q new.adapter.sectors)) ≡ place_count v.rules q * size → length (concat (sectors_on v.rules q v.adapter.sectors)) ≡ place_count v.rules q * size
            → disk_first v.rules q + place_count v.rules q ≤ length new.adapter.sectors → disk_first v.rules q + place_count v.rules q ≤ length v.adapter.sectors
            → (sector_of size k (concat (sectors_on v.rules q new.adapter.sectors)) ≡ sector_of size k (concat (sectors_on v.rules q v.adapter.sectors)))
            ⊎ (sector_of size k (concat (sectors_on v.rules q new.adapter.sectors)) ≡ sector_of size k q.bytes)
        at k new_bytes old_bytes new_fits old_fits = elim (cases_lt k (place_count v.rules q)) [
          | inl low ↦
              let old : (x : List ℕ) × (slice_get v.adapter.sectors (disk_first v.rules q + k) ≡ Some x) = some_item v.adapter.sectors (disk_first v.rules q + k) (omega arith) in
              elim (changes.each k low) [
                | inl same ↦
                    inl (there new.adapter.sectors k low new_fits new_whole old.0 (same ∙ old.1) ∙ sym (there v.adapter.sectors k low old_fits ready.whole_sectors old.0 old.1))
                | inr wrote ↦ inr (there new.adapter.sectors k low new_fits new_whole (bytes_for v.rules q k) wrote)
              ]
          | inr high ↦ inl (sector_past size k (place_count v.rules q) _ new_bytes high ∙ sym (sector_past size k (place_count v.rules q) _ old_bytes high))
        ]
