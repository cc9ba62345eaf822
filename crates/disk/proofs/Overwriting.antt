-- Sectors that are written one part after the other.
use Rattle.std.proofs.Common.{◌≡◌, nat_eq, ℕ, ◌+◌, ◌-◌, ◌*◌, ◌≤◌, ◌<◌, inl, inr, List, take, drop, slice_range, Option, Some, None, IsSome, arith, refl, sym, ap, ◌∙◌, mul-le-mul_right}
use Rattle.std.proofs.lemmas.Bool.{cases_lt}
use Rattle.std.proofs.lemmas.List.{drop-drop, drop-take, take-take}
use Rattle.std.proofs.lemmas.Map.Views.{hash_map_contains_key_iff, exact_unsigned_eq}
use Rattle.std.specs.Cmp.{nat_eq_equiv}
use Rattle.std.specs.Option.{option_map}
use Rattle.std.specs.HashMap.{get, keys}
use Rattle.sector.specs.declared.Extent.{Extent}
use Rattle.disk.specs.declared.chunks.Chunks.{Chunks}
use Rattle.disk.specs.Sparse.{ByNumber, held}
use Rattle.disk.specs.inside.SparseDisk.{Overwrites}

-- a part of a part
part_of_part : (bytes : List ℕ) (start end from n : ℕ) → from + n ≤ end - start
    → take n (drop from (slice_range bytes start end)) ≡ take n (drop (start + from) bytes)
part_of_part bytes start end from n within =
    sym (drop-take from n (slice_range bytes start end))
    ∙ (ap (λ xs. drop from xs) (take-take (from + n) (end - start) (drop start bytes) within)
    ∙ (drop-take from n (drop start bytes) ∙ ap (λ xs. take n xs) (drop-drop from start bytes)))

-- bytes before the part, and the part
pub overwrites_more : (extent part : Extent) (a n start end : ℕ) (bytes : List ℕ) (old mid new : Chunks)
    → Overwrites (record { first = extent.first; count = a }) bytes old mid → Overwrites part (slice_range bytes start end) mid new
    → part.first ≡ extent.first + a → n ≡ a + part.count → start ≡ a * mid.sector_size → end ≡ (a + part.count) * mid.sector_size
    → Overwrites (record { first = extent.first; count = n }) bytes old new
overwrites_more extent part a n start end bytes old mid new before then at sum begins ends =
    let size : ℕ = old.sector_size in
    let same : mid.sector_size ≡ size = before.sizes.sector_size in
    let start_is : start ≡ a * size = begins ∙ ap (λ k. a * k) same in
    let end_is : end ≡ (a + part.count) * size = ends ∙ ap (λ k. (a + part.count) * k) same in
    record {
      sizes = record { sector_size = then.sizes.sector_size ∙ same; sectors = then.sizes.sectors ∙ before.sizes.sectors };
      same_keys = then.same_keys ∙ before.same_keys;
      inside = λ sector within. elim (cases_lt sector part.first) [
        | inl low ↦ then.outside sector (λ h. let e : part.first ≤ sector = h.0 in omega arith) ∙ before.inside sector (within.0, omega (arith, within.1))
        | inr high ↦
            let below : sector < part.first + part.count = omega (arith, within.1) in
            let room : (sector - part.first + 1) * size ≤ part.count * size = mul-le-mul_right size (omega arith) in
            let place : start + (sector - part.first) * size ≡ (sector - extent.first) * size =
            ap (λ k. k + (sector - part.first) * size) start_is
            ∙ (let e : a * size + (sector - part.first) * size ≡ (a + (sector - part.first)) * size = omega arith in e)
            ∙ ap (λ k. k * size) (let e : a + (sector - part.first) ≡ sector - extent.first = omega arith in e) in
            then.inside sector (high, below)
            ∙ (ap (λ k. take k (drop ((sector - part.first) * k) (slice_range bytes start end))) same
            ∙ (part_of_part bytes start end ((sector - part.first) * size) size (omega arith)
            ∙ ap (λ k. take size (drop k bytes)) place))
      ];
      outside = λ sector apart.
          then.outside sector (λ h. apart (let e : part.first ≤ sector = h.0 in (omega arith, omega (arith, h.1))))
          ∙ before.outside sector (λ h. apart (h.0, omega (arith, h.1)));
    }

-- what is found is there whatever is read of it
pub some_mapped : {X Y : Type 0} (f : X → Y) (found : Option X) → IsSome found → IsSome (option_map f found)
some_mapped f None h = h
some_mapped f (Some x) h = refl

pub some_found : {X Y : Type 0} (f : X → Y) (found : Option X) → IsSome (option_map f found) → IsSome found
some_found f None h = h
some_found f (Some x) h = refl

-- the same keys have the same chunks
pub there_by_keys : (old new : ByNumber) → keys new ≡ keys old → (number : ℕ) → IsSome (held old number) → IsSome (held new number)
there_by_keys old new same number there =
    let has = (hash_map_contains_key_iff nat_eq_equiv exact_unsigned_eq old number).0 (some_found (λ bytes. bytes.items) (get nat_eq old number) there) in
    some_mapped (λ bytes. bytes.items) (get nat_eq new number)
    ((hash_map_contains_key_iff nat_eq_equiv exact_unsigned_eq new number).1 (rw same has))
