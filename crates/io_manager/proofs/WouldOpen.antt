-- What a call would open is told from what is decided of it, by the sizes that the manager keeps.
use Rattle.std.proofs.Common.{◌≡◌, ◌<◌, ◌≤◌, ℕ, zero, suc, ◌+◌, ◌/◌, ◌%◌, ◌^◌, true, false, List, Option, Some, None, refl, sym, ◌∙◌, ap, subst, arith, rules, length}
use Rattle.std.specs.Prelude.{All, ◌==◌, min, slice_get, get_or, if◌then◌else◌}
use Rattle.io_manager.proofs.Common.{All-get_or, nat_tests, slice_get-get_or, div_ceil, NtStatus, Extent, Kind, Read, Write, Flush, ClientRequest, Rules, home, is_transfer, place_count, sectors_of, refusal, partition_number, DeviceView, Handle, Limits, Asked, Tables, ManagerView, are_used_up, partition_of, call_on, without_bytes, opened_as, would_open, rules_of, asked_for, IsAdmissible}
use Rattle.io_manager.specs.inside.Sound.{EndsInRange, view_of, IsSound}
use Rattle.io_manager.proofs.Fitting.{AsksBy, asks_whole, no_sectors}

-- BY WHAT IS DECIDED

pub opens : (v : ManagerView) (q : ClientRequest) → are_used_up v.state.next_request ≡ false → refusal v.rules v.state q ≡ None → would_open v q ≡ Some (opened_as v.rules q)
opens v q last none = rw (last, none) refl

pub opens_none : (v : ManagerView) (q : ClientRequest) (status : NtStatus) → are_used_up v.state.next_request ≡ false → refusal v.rules v.state q ≡ Some status → would_open v q ≡ None
opens_none v q status last refused = rw (last, refused) refl

pub opens_no_more : (v : ManagerView) (q : ClientRequest) → are_used_up v.state.next_request ≡ true → would_open v q ≡ None
opens_no_more v q used_up = rw used_up refl

-- WHERE IT LIES

-- a sector of a partition lies as far from the partition's first
home_from : (rules : Rules) (p : Option ℕ) (i : ℕ) → home rules p i ≡ home rules p 0 + i
home_from rules None i = omega arith
home_from rules (Some p) i = by (slice_get rules.partitions p)
  where
    by : (found : Option Extent) → (elim found as (λ _. ℕ) [ Some extent ↦ extent.first + i | None ↦ i ]) ≡ (elim found as (λ _. ℕ) [ Some extent ↦ extent.first + 0 | None ↦ 0 ]) + i
    by None = omega arith
    by (Some extent) = omega arith

-- the end of a partition
ends_at : (rules : Rules) (p : ℕ) → p < length rules.partitions → All EndsInRange rules.partitions → home rules (Some p) 0 + sectors_of rules (Some p) < 2 ^ 64
ends_at rules p low all =
    let none : Extent = record { first = 0; count = 0 } in
    let found : slice_get rules.partitions p ≡ Some (get_or rules.partitions p none) = slice_get-get_or rules.partitions p none low in
    let ends : EndsInRange (get_or rules.partitions p none) = All-get_or EndsInRange rules.partitions p none low all in
    by (slice_get rules.partitions p) (get_or rules.partitions p none) found ends
  where
    by : (found : Option Extent) (e : Extent) → found ≡ Some e → EndsInRange e
        → (elim found as (λ _. ℕ) [ Some extent ↦ extent.first + 0 | None ↦ 0 ]) + (elim found as (λ _. ℕ) [ Some extent ↦ extent.count | None ↦ 0 ]) < 2 ^ 64
    by found e is ends =
        subst (λ f. (elim f as (λ _. ℕ) [ Some extent ↦ extent.first + 0 | None ↦ 0 ]) + (elim f as (λ _. ℕ) [ Some extent ↦ extent.count | None ↦ 0 ]) < 2 ^ 64) (sym is) (omega (arith, ends))

module _ (limits : Limits) (below : DeviceView) (tables : Tables) (q : ClientRequest) (h : IsSound limits below tables) (k : IsAdmissible (view_of limits below tables) q) where
  asks : AsksBy below.rules q limits.sector_size
  asks = asks_whole limits below tables q h k

  first_before : (kind : Kind) → q.kind ≡ kind → q.offset / limits.sector_size ≤ sectors_of below.rules (Some (partition_number q))
  first_before Read is = let inside : q.offset / limits.sector_size + q.length / limits.sector_size ≤ sectors_of below.rules (Some (partition_number q)) = asks.inside (ap is_transfer is) in omega (arith, inside)
  first_before Write is = let inside : q.offset / limits.sector_size + q.length / limits.sector_size ≤ sectors_of below.rules (Some (partition_number q)) = asks.inside (ap is_transfer is) in omega (arith, inside)
  first_before Flush is =
      let none : q.offset / limits.sector_size ≡ 0 = ap (λ n. n / limits.sector_size) (k.plain is).0 ∙ no_sectors limits.sector_size h.fits.some_bytes in
      omega (arith, none)

  -- its first sector on the disk is a word
  pub first_in_range : home below.rules q.partition 0 + q.offset / limits.sector_size < 2 ^ 64
  first_in_range =
      let ends : home below.rules (Some (partition_number q)) 0 + sectors_of below.rules (Some (partition_number q)) < 2 ^ 64 = ends_at below.rules (partition_number q) asks.known h.fits.ends in
      let low : q.offset / limits.sector_size ≤ sectors_of below.rules (Some (partition_number q)) = first_before q.kind refl in
      subst (λ p. home below.rules p 0 + q.offset / limits.sector_size < 2 ^ 64) asks.on_partition (omega (arith, ends, low))

-- rounded up, as the machine has it
ceil_is : (places most : ℕ) → div_ceil places most ≡ places / most + (if places % most == 0 then 0 else 1)
ceil_is places most = ap (λ n. places / most + n) (by (places % most))
  where
    by : (rest : ℕ) → min 1 rest ≡ (if rest == 0 then 0 else 1)
    by zero = refl
    by (suc n) = let one : min 1 (suc n) ≡ 1 = omega arith in let more : (suc n == 0) ≡ false = search (rules, nat_tests) in one ∙ sym (rw more refl)

-- what is told is what the request opens as
pub told_is : (limits : Limits) (below : DeviceView) (tables : Tables) (q : ClientRequest) (first places pieces : ℕ) → IsSound limits below tables
    → first ≡ home below.rules q.partition 0 → places ≡ place_count below.rules q → pieces ≡ div_ceil places limits.max_transfer
    → ◌≡◌ {A = ℕ × Extent} (pieces, record { first = first + q.offset / limits.sector_size; count = q.length / limits.sector_size }) (opened_as (rules_of limits below.rules) q)
told_is limits below tables q first places pieces h first_is places_are pieces_are =
    let most : limits.max_transfer ≡ below.rules.max_transfer = h.fits.max_transfer in
    let size : limits.sector_size ≡ below.rules.sector_size = h.fits.sector_size in
    let n : pieces ≡ (opened_as (rules_of limits below.rules) q).0 =
    pieces_are ∙ ap (λ m. div_ceil places m) most ∙ ap (λ p. div_ceil p below.rules.max_transfer) places_are ∙ ceil_is (place_count below.rules q) below.rules.max_transfer in
    let begin : first + q.offset / limits.sector_size ≡ home below.rules q.partition (q.offset / below.rules.sector_size) =
    ap (λ s. first + q.offset / s) size ∙ ap (λ f. f + q.offset / below.rules.sector_size) first_is ∙ sym (home_from below.rules q.partition (q.offset / below.rules.sector_size)) in
    let count : q.length / limits.sector_size ≡ q.length / below.rules.sector_size = ap (λ s. q.length / s) size in
    cc (n, begin, count)

-- what is asked of a handle's partition is the call on it, without its bytes
pub asked_is : (v : ManagerView) (handle : Handle) (partition : Option ℕ) (asked : Asked) (buffer : List ℕ) → partition ≡ partition_of v.handles handle → asked.length ≡ length buffer
    → asked_for partition asked ≡ without_bytes (call_on v handle asked.kind asked.offset buffer asked.through)
asked_is v handle partition asked buffer same as_long = cc (same, as_long)
