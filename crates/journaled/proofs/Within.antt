-- What a call would open lies on the disk.
use Rattle.journaled.proofs.Common.{◌≡◌, ◌≤◌, ℕ, zero, suc, ◌+◌, ◌/◌, ◌&&◌, Bool, true, false, not, List, [], ◌∷◌, Option, None, Some, refl, ap, subst, ◌∙◌, arith, if◌then◌else◌, All, is_some, is_none, slice_get, leb-true, not-false, and_parts, All-head, All-tail, zero-div, NtStatus, none_first, Extent, ClientRequest, Rules, home, first_sector, is_transfer, is_in_bounds, sectors_of, IsMap, IsPartition, State, refusal, ManagerView, are_used_up, call_on, disk_extent, opened_as, would_open, Event, opened_by}
use Rattle.ntstatus.specs.declared.NtStatus.TheVariants.{InvalidHandle, InvalidParameter, DeletePending}
use Rattle.srb.specs.declared.Kind.TheVariants.{Read, Write, Flush}
use Rattle.compose.specs.declared.Event.TheVariants.{Open, Close, Read as ReadEvent, Write as WriteEvent, Flush as FlushEvent, CancelIoEx, Mark, QueryRemove, CancelRemove, Remove, SurpriseRemove, Act, Finish, Reset}

abbrev LiesOn : Rules → Extent → Type 0
LiesOn rules extent = extent.first + extent.count ≤ rules.disk_sectors

in_part : (ps : List Extent) (p disk i n : ℕ) → All (IsPartition disk) ps → i + n ≤ (elim (slice_get ps p) as (λ _. ℕ) [ Some extent ↦ extent.count | None ↦ 0 ])
    → (elim (slice_get ps p) as (λ _. ℕ) [ Some extent ↦ extent.first + i | None ↦ i ]) + n ≤ disk
in_part [] zero disk i n each h = omega (arith, h)
in_part [] (suc p) disk i n each h = omega (arith, h)
in_part (e ∷ es) (suc p) disk i n each h = in_part es p disk i n (All-tail (IsPartition disk) e es each) h
in_part (e ∷ es) zero disk i n each h =
    let inside : e.first + e.count ≤ disk = (All-head (IsPartition disk) e es each).inside in
    omega (arith, inside, h)

at_home : (rules : Rules) (p : Option ℕ) (i n : ℕ) → IsMap rules.disk_sectors rules.partitions → i + n ≤ sectors_of rules p → home rules p i + n ≤ rules.disk_sectors
at_home rules None i n map h =
    let none : i + n ≤ 0 = h in
    let it : i + n ≤ rules.disk_sectors = omega (arith, none) in
    it
at_home rules (Some p) i n map h = in_part rules.partitions p rules.disk_sectors i n map.each h

after_true : (a b : Bool) → a ≡ true → (a && b) ≡ false → b ≡ false
after_true true b is h = h
after_true false b is h = absurd (cc (is))

moved : (rules : Rules) (s : State) (q : ClientRequest) → IsMap rules.disk_sectors rules.partitions → is_transfer q.kind ≡ true → refusal rules s q ≡ None → LiesOn rules (disk_extent rules q)
moved rules s q map moves none =
    let known = none_first (is_none q.partition) InvalidHandle _ none in
    let there = none_first s.removing DeletePending _ known.1 in
    let bounded = none_first (is_transfer q.kind && not (is_in_bounds rules q)) InvalidParameter _ there.1 in
    let bounds : is_in_bounds rules q ≡ true = not-false _ (after_true (is_transfer q.kind) _ moves bounded.0) in
    let parts : _ × _ = and_parts _ _ bounds in
    let limited : _ × _ = and_parts _ _ parts.1 in
    at_home rules q.partition (first_sector rules q) (q.length / rules.sector_size) map (leb-true _ _ limited.0)

flushed : (rules : Rules) (q : ClientRequest) → IsMap rules.disk_sectors rules.partitions → q.offset ≡ 0 → q.length ≡ 0 → LiesOn rules (disk_extent rules q)
flushed rules q map o l =
    let first : first_sector rules q ≡ 0 = ap (λ (n : ℕ). n / rules.sector_size) o ∙ zero-div rules.sector_size in
    let count : q.length / rules.sector_size ≡ 0 = ap (λ (n : ℕ). n / rules.sector_size) l ∙ zero-div rules.sector_size in
    at_home rules q.partition (first_sector rules q) (q.length / rules.sector_size) map (omega (arith, first, count))

extent_in : ℕ × Extent → Extent
extent_in told = told.1

some_told : {x y : ℕ × Extent} → Some x ≡ Some y → x ≡ y
some_told {x} {y} e = cc

module _ (v : ManagerView) (q : ClientRequest) (told : ℕ × Extent) (lies : refusal v.rules v.state q ≡ None → LiesOn v.rules (disk_extent v.rules q)) where
  by_refusal : (r : Option NtStatus) → refusal v.rules v.state q ≡ r → (if is_some r then None else Some (opened_as v.rules q)) ≡ Some told → LiesOn v.rules told.1
  by_refusal None is h =
      let same : opened_as v.rules q ≡ told = some_told h in
      subst (λ (t : ℕ × Extent). LiesOn v.rules t.1) same (lies is)
  by_refusal (Some status) is h = absurd (cc (h))

  by_number : (b : Bool) → (if b then None else (if is_some (refusal v.rules v.state q) then None else Some (opened_as v.rules q))) ≡ Some told → LiesOn v.rules told.1
  by_number true h = absurd (cc (h))
  by_number false h = by_refusal (refusal v.rules v.state q) refl h

  would_lie : would_open v q ≡ Some told → LiesOn v.rules told.1
  would_lie h = by_number (are_used_up v.state.next_request) h

-- a read, a write or a flush that would be opened
pub lies_on_disk : (v : ManagerView) (event : Event) (told : ℕ × Extent) → IsMap v.rules.disk_sectors v.rules.partitions → opened_by v event ≡ Some told → told.1.first + told.1.count ≤ v.rules.disk_sectors
lies_on_disk v (ReadEvent handle offset buffer) told map h = would_lie v (call_on v handle Read offset buffer false) told (moved v.rules v.state (call_on v handle Read offset buffer false) map refl) h
lies_on_disk v (WriteEvent handle offset bytes through) told map h = would_lie v (call_on v handle Write offset bytes through) told (moved v.rules v.state (call_on v handle Write offset bytes through) map refl) h
lies_on_disk v (FlushEvent handle) told map h = would_lie v (call_on v handle Flush 0 [] false) told (λ _. flushed v.rules (call_on v handle Flush 0 [] false) map refl refl) h
lies_on_disk v _ told map h = absurd (cc (h))
