-- A request that nothing refuses fits the device below.
use Rattle.std.proofs.Common.{◌≡◌, ◌<◌, ◌≤◌, ℕ, zero, suc, ◌+◌, ◌*◌, ◌/◌, ◌%◌, Bool, true, false, Option, Some, None, refl, sym, ◌∙◌, ap, subst, arith, length}
use Rattle.std.specs.Prelude.{is_none, unwrap_or, ◌&&◌, ◌==◌, if◌then◌else◌}
use Rattle.io_manager.proofs.Common.{leb-false, leb-true, not-false, and_parts, nat_tests, mod-add-div', zero-mul, zero-div, slab_len, Kind, Read, Write, Flush, ClientRequest, Rules, is_transfer, is_in_bounds, sectors_of, State, partition_number, DeviceView, IsBounded, transfer_length, IsTakenIn, taken_in, Limits, Tables, rules_of}
use Rattle.io_manager.specs.inside.Sound.{view_of, IsSound}
use Rattle.io_manager.specs.inside.Admitting.{request_of, IsKnown, IsAdmissible}

after_true : (b c : Bool) → b ≡ true → (b && c) ≡ false → c ≡ false
after_true true c h e = e
after_true false c h e = cc (h)

-- what a request that nothing refuses asks for, in sectors
pub record AsksBy (below : Rules) (q : ClientRequest) (size : ℕ) : Type 0 where
  pub on_partition : Some (partition_number q) ≡ q.partition
  pub known : partition_number q < length below.partitions
  pub offset : q.offset ≡ q.offset / size * below.sector_size
  pub length_is : q.length ≡ q.length / size * below.sector_size
  pub inside : is_transfer q.kind ≡ true → q.offset / size + q.length / size ≤ sectors_of below (Some (partition_number q))
  pub short : is_transfer q.kind ≡ true → q.length / size ≤ below.longest
  pub some : is_transfer q.kind ≡ true → 0 < q.length / size

eq_true : (a b : ℕ) → (a == b) ≡ true → a ≡ b
eq_true a b h = grind (arith, nat_tests)

whole : (size n : ℕ) → 0 < size → n % size ≡ 0 → n ≡ n / size * size
whole size n some none = let e : n % size + n / size * size ≡ n = mod-add-div' n size in omega arith

positive : (size count n : ℕ) → n ≡ count * size → 0 < n → 0 < count
positive size zero n e some = absurd (let z : 0 * size ≡ 0 = zero-mul size in omega arith)
positive size (suc k) n e some = omega arith

some_sectors : (size n : ℕ) → 0 < size → n ≡ n / size * size → (n == 0) ≡ false → 0 < n / size
some_sectors size n some whole' not_empty =
    let n_some : 0 < n = grind (arith, nat_tests) in
    positive size (n / size) n whole' n_some

partition_is : (p : Option ℕ) → is_none p ≡ false → Some (unwrap_or p 0) ≡ p
partition_is None h = cc (h)
partition_is (Some p) h = refl

known_is : (count : ℕ) (p : Option ℕ) → is_none p ≡ false → IsKnown count p → unwrap_or p 0 < count
known_is count None h known = cc (h)
known_is count (Some p) h known = known

none_of : (size : ℕ) → 0 < size → 0 ≡ 0 / size * size
none_of size some = sym (ap (λ n. n * size) (zero-div size) ∙ zero-mul size)

pub no_sectors : (size : ℕ) → 0 < size → 0 / size ≡ 0
no_sectors size some = zero-div size

module _ (limits : Limits) (below : DeviceView) (tables : Tables) (q : ClientRequest) (h : IsSound limits below tables) (k : IsAdmissible (view_of limits below tables) q) where
  abbrev over : Rules
  over = rules_of limits below.rules

  abbrev state : State
  state = (view_of limits below tables).state

  taken : IsTakenIn over state q
  taken = taken_in over state q k.not_refused

  some_bytes : 0 < below.rules.sector_size
  some_bytes = rw (← h.fits.sector_size) h.fits.some_bytes

  moved : is_transfer q.kind ≡ true → AsksBy below.rules q below.rules.sector_size
  moved moves =
      let bounds : is_in_bounds over q ≡ true = not-false _ (after_true (is_transfer q.kind) _ moves taken.in_bounds) in
      let not_empty : (q.length == 0) ≡ false = after_true (is_transfer q.kind) _ moves taken.some in
      let parts : _ × _ = and_parts _ _ bounds in
      let aligned : _ × _ = and_parts _ _ parts.0 in
      let limited : _ × _ = and_parts _ _ parts.1 in
      let size : q.length ≡ q.length / below.rules.sector_size * below.rules.sector_size = whole below.rules.sector_size q.length some_bytes (eq_true _ 0 aligned.1) in
      record {
        on_partition = partition_is q.partition taken.known;
        known = known_is (length below.rules.partitions) q.partition taken.known k.known;
        offset = whole below.rules.sector_size q.offset some_bytes (eq_true _ 0 aligned.0);
        length_is = size;
        inside = λ _. subst (λ p. q.offset / below.rules.sector_size + q.length / below.rules.sector_size ≤ sectors_of below.rules p) (sym (partition_is q.partition taken.known)) (leb-true _ _ limited.0);
        short = λ _. leb-true _ _ limited.1;
        some = λ _. some_sectors below.rules.sector_size q.length some_bytes size not_empty;
      }

  by_kind : (kind : Kind) → q.kind ≡ kind → AsksBy below.rules q below.rules.sector_size
  by_kind Flush is =
      let none : (q.offset ≡ 0) × (q.length ≡ 0) = k.plain is in
      record {
        on_partition = partition_is q.partition taken.known;
        known = known_is (length below.rules.partitions) q.partition taken.known k.known;
        offset = none.0 ∙ none_of below.rules.sector_size some_bytes ∙ ap (λ n. n / below.rules.sector_size * below.rules.sector_size) (sym none.0);
        length_is = none.1 ∙ none_of below.rules.sector_size some_bytes ∙ ap (λ n. n / below.rules.sector_size * below.rules.sector_size) (sym none.1);
        inside = λ moves. cc (is, moves);
        short = λ moves. cc (is, moves);
        some = λ moves. cc (is, moves);
      }
  by_kind Read is = moved (ap is_transfer is)
  by_kind Write is = moved (ap is_transfer is)

  pub asks_whole : AsksBy below.rules q limits.sector_size
  asks_whole = subst (AsksBy below.rules q) (sym h.fits.sector_size) (by_kind q.kind refl)

  pub free_place : slab_len tables.requests < limits.open_requests
  free_place =
      let few : length below.state.requests < limits.open_requests = leb-false limits.open_requests _ taken.room in
      let counted : slab_len tables.requests ≡ length below.state.requests = h.held.counted in
      omega arith

  -- the layer below takes it
  pub is_bounded : IsBounded below.rules (request_of limits.sector_size q)
  is_bounded = bounded q.kind refl
    where
      bounded : (kind : Kind) → q.kind ≡ kind → IsBounded below.rules (request_of limits.sector_size q)
      bounded Read is = record {
        known = asks_whole.known;
        some = λ moves. asks_whole.some moves;
        none = λ not_moved. cc (is, not_moved);
        inside = asks_whole.inside (ap is_transfer is);
        short = asks_whole.short (ap is_transfer is);
      }
      bounded Write is = record {
        known = asks_whole.known;
        some = λ moves. asks_whole.some moves;
        none = λ not_moved. cc (is, not_moved);
        inside = asks_whole.inside (ap is_transfer is);
        short = asks_whole.short (ap is_transfer is);
      }
      bounded Flush is =
          let none : (q.offset ≡ 0) × (q.length ≡ 0) = k.plain is in
          let first : q.offset / limits.sector_size ≡ 0 = ap (λ n. n / limits.sector_size) none.0 ∙ no_sectors limits.sector_size h.fits.some_bytes in
          let count : q.length / limits.sector_size ≡ 0 = ap (λ n. n / limits.sector_size) none.1 ∙ no_sectors limits.sector_size h.fits.some_bytes in
          record {
            known = asks_whole.known;
            some = λ moves. cc (is, moves);
            none = λ _. count;
            inside = omega arith;
            short = omega arith;
          }

  -- as many bytes as the call has
  pub transfer_is : transfer_length below.rules (request_of limits.sector_size q) ≡ q.length
  transfer_is = by q.kind refl
    where
      by : (kind : Kind) → q.kind ≡ kind → transfer_length below.rules (request_of limits.sector_size q) ≡ q.length
      by Read is = ap (λ kind. if is_transfer kind then q.length / limits.sector_size * below.rules.sector_size else 0) is ∙ sym asks_whole.length_is
      by Write is = ap (λ kind. if is_transfer kind then q.length / limits.sector_size * below.rules.sector_size else 0) is ∙ sym asks_whole.length_is
      by Flush is = ap (λ kind. if is_transfer kind then q.length / limits.sector_size * below.rules.sector_size else 0) is ∙ sym (k.plain is).1
