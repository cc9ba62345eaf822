-- A piece is carried out, or faults.
use Rattle.std.proofs.Common.{◌≡◌, ◌<◌, ◌≤◌, ◌⊎◌, inl, inr, ℕ, ◌+◌, ◌-◌, ◌*◌, ◌/◌, Bool, true, false, List, [], ◌∷◌, Some, refl, sym, subst, ap, ◌∙◌, arith, map, length, take, get_or}
use Rattle.std.specs.Prelude.{All, IsTrue, slice_set, slice_index, if◌then◌else◌}
use Rattle.std.specs.List.{concat, slice_range}
use Rattle.std.proofs.lemmas.List.{length-append, take_all, length-take, length-drop}
use Rattle.std.proofs.lemmas.List.Elements.{All-head, All-tail, All-take, All-drop}
use Rattle.sector.specs.Extents.{IsSector, sectors_in}
use Rattle.sector.specs.Splice.{splice}
use Rattle.cdb.specs.declared.Cdb.{Cdb}
use Rattle.cdb.specs.declared.Cdb.TheVariants.{Read10, Write10, Sync10, ReadCapacity10, Read16, Write16, Sync16, ReadCapacity16}
use Rattle.cdb.specs.Meaning.{Means, AsksToRead, AsksToWrite}
use Rattle.srb.specs.declared.Srb.{Srb}
use Rattle.adapter.specs.Performing.{CarriesOut}
use Rattle.irp.specs.declared.Payload.TheVariants.{Srb as Packed}
use Rattle.srb.specs.declared.Kind.{Kind}
use Rattle.srb.specs.declared.Kind.TheVariants.{Read, Write, Flush}
use Rattle.machine.specs.declared.Request.{Request}
use Rattle.machine.specs.Rules.{Rules, as_client, home, is_transfer}
use Rattle.machine.specs.State.{State}
use Rattle.machine.specs.Sending.{Transfers, command_for, read_command, write_command, flush_command}
use Rattle.machine.proofs.Forms.{read_forms, write_forms, flush_forms, one_read, one_write}
use Rattle.device.specs.View.{AsksFor, IsBounded, sent_bytes, transfer_length}
use Rattle.sector.proofs.Splicing.{length-splice}
use Rattle.port.specs.declared.queues.Sizes.{Sizes}
use Rattle.port.specs.Shown.{rules_of, places_of}
use Rattle.port.specs.inside.Invariant.{IsEmptyIfFlush}
use Rattle.device.specs.Served.{cut}
use Rattle.port.proofs.Lists.{cut-concat}
use Rattle.port.proofs.Codes.{read_code, write_code, flush_code, clash}
use Rattle.device.proofs.Bounded.{sectors_are}
use Rattle.port.proofs.Sizing.{volume_zero, places_transfer, places_flush}

-- the one array is the disk
pub whole_disk : (sectors : List (List ℕ)) (count : ℕ) → count ≡ length sectors → slice_range sectors 0 (0 + count) ≡ sectors
whole_disk sectors count e = take_all (0 + count - 0) sectors (omega arith)

-- WHICH COMMAND IS CARRIED OUT

as_read : (faithful told : Bool) (block : List ℕ) (size : ℕ) (sectors : List (List ℕ)) (bytes : List ℕ) (command : Cdb) (moved after : List (List ℕ)) (first count : ℕ) (through : Bool)
    → AsksToRead block first count through → Means block command → CarriesOut faithful told size sectors bytes command moved after → CarriesOut faithful told size sectors bytes (Read10 first count through) moved after
as_read true told block size sectors bytes (Read10 lba blocks fua) moved after first count through m w p =
    let e = one_read block lba blocks first count fua through (inl w) m in
    subst (λ x. CarriesOut true told size sectors bytes (Read10 x count through) moved after) e.0 (subst (λ x. CarriesOut true told size sectors bytes (Read10 lba x through) moved after) e.1 p)
as_read false told block size sectors bytes (Read10 lba blocks fua) moved after first count through m w p =
    let e = one_read block lba blocks first count fua through (inl w) m in
    subst (λ x. CarriesOut false told size sectors bytes (Read10 x count through) moved after) e.0 (subst (λ x. CarriesOut false told size sectors bytes (Read10 lba x through) moved after) e.1 p)
as_read true told block size sectors bytes (Read16 lba blocks fua) moved after first count through m w p =
    let e = one_read block lba blocks first count fua through (inr w) m in
    subst (λ x. CarriesOut true told size sectors bytes (Read10 x count through) moved after) e.0 (subst (λ x. CarriesOut true told size sectors bytes (Read10 lba x through) moved after) e.1 p)
as_read false told block size sectors bytes (Read16 lba blocks fua) moved after first count through m w p =
    let e = one_read block lba blocks first count fua through (inr w) m in
    subst (λ x. CarriesOut false told size sectors bytes (Read10 x count through) moved after) e.0 (subst (λ x. CarriesOut false told size sectors bytes (Read10 lba x through) moved after) e.1 p)
as_read faithful told block size sectors bytes (Write10 lba blocks fua) moved after first count through m w p = absurd (clash (slice_index block 0) 40 136 42 (read_code block first count through m) w.0.operation refl refl)
as_read faithful told block size sectors bytes (Sync10 lba blocks) moved after first count through m w p = absurd (clash (slice_index block 0) 40 136 53 (read_code block first count through m) w.0.operation refl refl)
as_read faithful told block size sectors bytes ReadCapacity10 moved after first count through m w p = absurd (clash (slice_index block 0) 40 136 37 (read_code block first count through m) w.operation refl refl)
as_read faithful told block size sectors bytes (Write16 lba blocks fua) moved after first count through m w p = absurd (clash (slice_index block 0) 40 136 138 (read_code block first count through m) w.0.operation refl refl)
as_read faithful told block size sectors bytes (Sync16 lba blocks) moved after first count through m w p = absurd (clash (slice_index block 0) 40 136 145 (read_code block first count through m) w.0.operation refl refl)
as_read faithful told block size sectors bytes (ReadCapacity16 allocation) moved after first count through m w p = absurd (clash (slice_index block 0) 40 136 158 (read_code block first count through m) w.0.operation refl refl)

as_write : (faithful told : Bool) (block : List ℕ) (size : ℕ) (sectors : List (List ℕ)) (bytes : List ℕ) (command : Cdb) (moved after : List (List ℕ)) (first count : ℕ) (through : Bool)
    → AsksToWrite block first count through → Means block command → CarriesOut faithful told size sectors bytes command moved after → CarriesOut faithful told size sectors bytes (Write10 first count through) moved after
as_write true told block size sectors bytes (Write10 lba blocks fua) moved after first count through m w p =
    let e = one_write block lba blocks first count fua through (inl w) m in
    subst (λ x. CarriesOut true told size sectors bytes (Write10 x count through) moved after) e.0 (subst (λ x. CarriesOut true told size sectors bytes (Write10 lba x through) moved after) e.1 p)
as_write false told block size sectors bytes (Write10 lba blocks fua) moved after first count through m w p =
    let e = one_write block lba blocks first count fua through (inl w) m in
    subst (λ x. CarriesOut false told size sectors bytes (Write10 x count through) moved after) e.0 (subst (λ x. CarriesOut false told size sectors bytes (Write10 lba x through) moved after) e.1 p)
as_write true told block size sectors bytes (Write16 lba blocks fua) moved after first count through m w p =
    let e = one_write block lba blocks first count fua through (inr w) m in
    subst (λ x. CarriesOut true told size sectors bytes (Write10 x count through) moved after) e.0 (subst (λ x. CarriesOut true told size sectors bytes (Write10 lba x through) moved after) e.1 p)
as_write false told block size sectors bytes (Write16 lba blocks fua) moved after first count through m w p =
    let e = one_write block lba blocks first count fua through (inr w) m in
    subst (λ x. CarriesOut false told size sectors bytes (Write10 x count through) moved after) e.0 (subst (λ x. CarriesOut false told size sectors bytes (Write10 lba x through) moved after) e.1 p)
as_write faithful told block size sectors bytes (Read10 lba blocks fua) moved after first count through m w p = absurd (clash (slice_index block 0) 42 138 40 (write_code block first count through m) w.0.operation refl refl)
as_write faithful told block size sectors bytes (Sync10 lba blocks) moved after first count through m w p = absurd (clash (slice_index block 0) 42 138 53 (write_code block first count through m) w.0.operation refl refl)
as_write faithful told block size sectors bytes ReadCapacity10 moved after first count through m w p = absurd (clash (slice_index block 0) 42 138 37 (write_code block first count through m) w.operation refl refl)
as_write faithful told block size sectors bytes (Read16 lba blocks fua) moved after first count through m w p = absurd (clash (slice_index block 0) 42 138 136 (write_code block first count through m) w.0.operation refl refl)
as_write faithful told block size sectors bytes (Sync16 lba blocks) moved after first count through m w p = absurd (clash (slice_index block 0) 42 138 145 (write_code block first count through m) w.0.operation refl refl)
as_write faithful told block size sectors bytes (ReadCapacity16 allocation) moved after first count through m w p = absurd (clash (slice_index block 0) 42 138 158 (write_code block first count through m) w.0.operation refl refl)

as_flush : (faithful told : Bool) (block : List ℕ) (size : ℕ) (sectors : List (List ℕ)) (bytes : List ℕ) (command : Cdb) (moved after : List (List ℕ))
    → Means block (Sync10 0 0) ⊎ Means block (Sync16 0 0) → Means block command → CarriesOut faithful told size sectors bytes command moved after → CarriesOut faithful told size sectors bytes (Sync10 0 0) moved after
as_flush true told block size sectors bytes (Sync10 lba blocks) moved after m w p = p
as_flush false told block size sectors bytes (Sync10 lba blocks) moved after m w p = p
as_flush true told block size sectors bytes (Sync16 lba blocks) moved after m w p = p
as_flush false told block size sectors bytes (Sync16 lba blocks) moved after m w p = p
as_flush faithful told block size sectors bytes (Read10 lba blocks fua) moved after m w p = absurd (clash (slice_index block 0) 53 145 40 (flush_code block m) w.0.operation refl refl)
as_flush faithful told block size sectors bytes (Write10 lba blocks fua) moved after m w p = absurd (clash (slice_index block 0) 53 145 42 (flush_code block m) w.0.operation refl refl)
as_flush faithful told block size sectors bytes ReadCapacity10 moved after m w p = absurd (clash (slice_index block 0) 53 145 37 (flush_code block m) w.operation refl refl)
as_flush faithful told block size sectors bytes (Read16 lba blocks fua) moved after m w p = absurd (clash (slice_index block 0) 53 145 136 (flush_code block m) w.0.operation refl refl)
as_flush faithful told block size sectors bytes (Write16 lba blocks fua) moved after m w p = absurd (clash (slice_index block 0) 53 145 138 (flush_code block m) w.0.operation refl refl)
as_flush faithful told block size sectors bytes (ReadCapacity16 allocation) moved after m w p = absurd (clash (slice_index block 0) 53 145 158 (flush_code block m) w.0.operation refl refl)

-- WHAT IT SAYS OF THE SECTORS, WHERE THE ADAPTER IS FAITHFUL TO THEM AND WHERE IT ISN'T

record IsReadOut (faithful : Bool) (size : ℕ) (sectors : List (List ℕ)) (first count : ℕ) (moved after : List (List ℕ)) : Type 0 where
  covers : length moved ≡ count
  whole : All (IsSector size) moved
  same : IsTrue faithful → moved ≡ slice_range sectors first (first + count)
  stays : after ≡ sectors

read_out : (faithful told : Bool) (size : ℕ) (sectors : List (List ℕ)) (bytes : List ℕ) (first count : ℕ) (through : Bool) (moved after : List (List ℕ)) → All (IsSector size) sectors
    → CarriesOut faithful told size sectors bytes (Read10 first count through) moved after → IsReadOut faithful size sectors first count moved after
read_out true told size sectors bytes first count through moved after sized p =
    let fits = p.0 in
    record {
      covers = ap (λ xs. length xs) p.1 ∙ simp (length-take, length-drop) (omega arith);
      whole = subst (All (IsSector size)) (sym p.1) (All-take (IsSector size) _ _ (All-drop (IsSector size) first sectors sized));
      same = λ _. p.1;
      stays = p.2;
    }
read_out false told size sectors bytes first count through moved after sized p = record { covers = p.0.1; whole = p.0.2; same = λ is. cc (is); stays = p.1 }

record IsWrittenOut (faithful : Bool) (size : ℕ) (sectors : List (List ℕ)) (bytes : List ℕ) (first count : ℕ) (moved after : List (List ℕ)) : Type 0 where
  inside : first + count ≤ length sectors
  sent : concat moved ≡ bytes
  covers : length moved ≡ count
  whole : All (IsSector size) moved
  leaves : after ≡ (if faithful then splice sectors first moved else sectors)

written_out : (faithful told : Bool) (size : ℕ) (sectors : List (List ℕ)) (bytes : List ℕ) (first count : ℕ) (through : Bool) (moved after : List (List ℕ))
    → CarriesOut faithful told size sectors bytes (Write10 first count through) moved after → IsWrittenOut faithful size sectors bytes first count moved after
written_out true told size sectors bytes first count through moved after p = record { inside = p.0; sent = p.1; covers = p.2; whole = p.3; leaves = p.4 }
written_out false told size sectors bytes first count through moved after p = record { inside = p.0.0; sent = p.0.1; covers = p.0.2; whole = p.0.3; leaves = p.1 }

flushed_out : (faithful told : Bool) (size : ℕ) (sectors : List (List ℕ)) (bytes : List ℕ) (first count : ℕ) (moved after : List (List ℕ))
    → CarriesOut faithful told size sectors bytes (Sync10 first count) moved after → (moved ≡ [] ∷ []) × (after ≡ sectors)
flushed_out true told size sectors bytes first count moved after p = p
flushed_out false told size sectors bytes first count moved after p = p

-- WHAT IT MOVES

abbrev pub the_arrays : Rules → List (List ℕ) → List (List (List ℕ))
the_arrays rules sectors = map (sectors_in sectors) rules.partitions

abbrev pub with_moved : Srb → List (List ℕ) → ℕ → Srb
with_moved srb moved left = record srb { «data» = concat moved; for_label = left }

-- sectors of one size after each other
concat_sized : (size : ℕ) (xs : List (List ℕ)) → All (IsSector size) xs → length (concat xs) ≡ length xs * size
concat_sized size [] sized = let z : 0 ≡ 0 * size = omega arith in z
concat_sized size (x ∷ xs) sized =
    let one : length x ≡ size = All-head (IsSector size) x xs sized in
    let rest : length (concat xs) ≡ length xs * size = concat_sized size xs (All-tail (IsSector size) x xs sized) in
    length-append x (concat xs) ∙ omega (arith, one, rest)

-- a piece of all places of a request, carried out
pub record IsCarried (rules : Rules) (s : State) (r : Request) (kind : Kind) (srb : Srb) (sectors moved after : List (List ℕ)) (left : ℕ) : Type 0 where
  pub moves : Transfers rules s (as_client rules r (sent_bytes kind (Packed srb))) (record { first = 0; count = places_of rules r }) kind moved (the_arrays rules after)
  pub covers : length moved ≡ places_of rules r
  pub parts : cut (places_of rules r) rules.sector_size (concat moved) ≡ moved
  pub sent : sent_bytes kind (Packed (with_moved srb moved left)) ≡ sent_bytes kind (Packed srb)
  pub long : length after ≡ length sectors
  pub filled : r.kind ≡ Read → length (concat moved) ≡ transfer_length rules r
  pub empty : IsEmptyIfFlush r (concat moved)

module _ (sizes : Sizes) (faithful told : Bool) (same_faith : sizes.faithful ≡ faithful) (s : State) (r : Request) (srb : Srb) (sectors moved after : List (List ℕ)) (left : ℕ) (command : Cdb)
    (some : 0 < sizes.sector_size) (bounded : IsBounded (rules_of sizes) r) (count_is : sizes.sectors ≡ length sectors) (sized : All (IsSector sizes.sector_size) sectors)
    (arrays_are : s.arrays ≡ the_arrays (rules_of sizes) sectors) where
  array_is : get_or s.arrays r.volume [] ≡ sectors
  array_is =
      ap (λ arrays. get_or arrays r.volume []) arrays_are
      ∙ ap (λ n. get_or (the_arrays (rules_of sizes) sectors) n []) (volume_zero sizes r bounded)
      ∙ whole_disk sectors sizes.sectors count_is

  first_is : r.extent.first * sizes.sector_size / sizes.sector_size ≡ r.extent.first
  first_is = sectors_are r.extent.first sizes.sector_size some

  home_is : home (rules_of sizes) (Some r.volume) (r.extent.first * sizes.sector_size / sizes.sector_size + 0) ≡ r.extent.first * sizes.sector_size / sizes.sector_size + 0
  home_is =
      let z : 0 + (r.extent.first * sizes.sector_size / sizes.sector_size + 0) ≡ r.extent.first * sizes.sector_size / sizes.sector_size + 0 = omega arith in
      ap (λ n. home (rules_of sizes) (Some n) (r.extent.first * sizes.sector_size / sizes.sector_size + 0)) (volume_zero sizes r bounded) ∙ z

  carried_read : r.kind ≡ Read → AsksFor (rules_of sizes) r srb → Means srb.block command → CarriesOut faithful told sizes.sector_size sectors srb.data command moved after
      → IsCarried (rules_of sizes) s r Read srb sectors moved after left
  carried_read is asks means performs =
      let rules : Rules = rules_of sizes in
      let n : ℕ = places_of rules r in
      let x : ℕ = r.extent.first * sizes.sector_size / sizes.sector_size + 0 in
      let m : Means srb.block (read_command (home rules (Some r.volume) x) n r.through) = subst (λ k. Means srb.block (command_for rules (as_client rules r []) (record { first = 0; count = n }) k)) is asks.asks in
      let p : CarriesOut faithful told sizes.sector_size sectors srb.data (Read10 (home rules (Some r.volume) x) n r.through) moved after = as_read faithful told srb.block _ sectors srb.data command moved after _ n r.through (read_forms srb.block (home rules (Some r.volume) x) n r.through m) means performs in
      let p' : CarriesOut faithful told sizes.sector_size sectors srb.data (Read10 x n r.through) moved after = subst (λ y. CarriesOut faithful told sizes.sector_size sectors srb.data (Read10 y n r.through) moved after) home_is p in
      let out : IsReadOut faithful sizes.sector_size sectors x n moved after = read_out faithful told sizes.sector_size sectors srb.data x n r.through moved after sized p' in
      let within : All (IsSector sizes.sector_size) moved = out.whole in
      let long : length moved ≡ n = out.covers in
      record {
        moves = (λ is. subst (λ array. moved ≡ slice_range array x (x + n)) (sym array_is) (out.same (sym same_faith ∙ is)), within, ap (λ xs. the_arrays rules xs) out.stays ∙ sym arrays_are);
        covers = long;
        parts = subst (λ k. cut k sizes.sector_size (concat moved) ≡ moved) long (cut-concat sizes.sector_size moved within);
        sent = refl;
        long = ap (λ xs. length xs) out.stays;
        filled = λ _.
            let sized' : length (concat moved) ≡ length moved * sizes.sector_size = concat_sized sizes.sector_size moved within in
            let whole : transfer_length rules r ≡ r.extent.count * sizes.sector_size = rw is refl in
            let places : n ≡ r.extent.count = places_transfer sizes r some (ap is_transfer is) in
            sized' ∙ ap (λ k. k * sizes.sector_size) (long ∙ places) ∙ sym whole;
        empty = λ e. absurd (cc (e, is));
      }

  carried_write : r.kind ≡ Write → AsksFor (rules_of sizes) r srb → Means srb.block command → CarriesOut faithful told sizes.sector_size sectors srb.data command moved after
      → IsCarried (rules_of sizes) s r Write srb sectors moved after left
  carried_write is asks means performs =
      let rules : Rules = rules_of sizes in
      let n : ℕ = places_of rules r in
      let x : ℕ = r.extent.first * sizes.sector_size / sizes.sector_size + 0 in
      let m : Means srb.block (write_command (home rules (Some r.volume) x) n r.through) = subst (λ k. Means srb.block (command_for rules (as_client rules r []) (record { first = 0; count = n }) k)) is asks.asks in
      let p : CarriesOut faithful told sizes.sector_size sectors srb.data (Write10 (home rules (Some r.volume) x) n r.through) moved after = as_write faithful told srb.block _ sectors srb.data command moved after _ n r.through (write_forms srb.block (home rules (Some r.volume) x) n r.through m) means performs in
      let p' : CarriesOut faithful told sizes.sector_size sectors srb.data (Write10 x n r.through) moved after = subst (λ y. CarriesOut faithful told sizes.sector_size sectors srb.data (Write10 y n r.through) moved after) home_is p in
      let out : IsWrittenOut faithful sizes.sector_size sectors srb.data x n moved after = written_out faithful told sizes.sector_size sectors srb.data x n r.through moved after p' in
      let fits = out.inside in
      let covers = out.covers in
      let long : length after ≡ length sectors = long_by faithful x out.leaves (omega arith) in
      let bytes_long : length srb.data ≡ n * sizes.sector_size = asks.data_length ∙ transfer ∙ ap (λ k. k * sizes.sector_size) (sym (places_transfer sizes r some (ap is_transfer is))) in
      let all_bytes : slice_range srb.data (0 * sizes.sector_size) ((0 + n) * sizes.sector_size) ≡ srb.data = whole_bytes srb.data n sizes.sector_size bytes_long in
      record {
        moves = (out.sent ∙ sym all_bytes, out.whole, left_by faithful same_faith x out.leaves long);
        covers = covers;
        parts = subst (λ k. cut k sizes.sector_size (concat moved) ≡ moved) covers (cut-concat sizes.sector_size moved out.whole);
        sent = out.sent;
        long = long;
        filled = λ e. absurd (cc (e, is));
        empty = λ e. absurd (cc (e, is));
      }
    where
      transfer : (if is_transfer r.kind then r.extent.count * sizes.sector_size else 0) ≡ r.extent.count * sizes.sector_size
      transfer = rw is refl

      whole_bytes : (bytes : List ℕ) (n size : ℕ) → length bytes ≡ n * size → slice_range bytes (0 * size) ((0 + n) * size) ≡ bytes
      whole_bytes bytes n size e =
          let a : 0 * size ≡ 0 = omega arith in
          let c : (0 + n) * size ≡ 0 + length bytes = ap (λ k. k * size) (zero_plus n) ∙ sym e ∙ sym (zero_plus (length bytes)) in
          rw (a, c) (whole_bytes' bytes)
        where
          zero_plus : (k : ℕ) → 0 + k ≡ k
          zero_plus k = omega arith

          whole_bytes' : (bytes : List ℕ) → slice_range bytes 0 (0 + length bytes) ≡ bytes
          whole_bytes' bytes = take_all (0 + length bytes - 0) bytes (omega arith)

      written_is : (x : ℕ) → after ≡ splice sectors x moved → length after ≡ length sectors → the_arrays (rules_of sizes) after ≡ slice_set s.arrays r.volume (splice (get_or s.arrays r.volume []) x moved)
      written_is x after_is long =
          let e : slice_range after 0 (0 + sizes.sectors) ≡ splice sectors x moved = whole_disk after sizes.sectors (count_is ∙ sym long) ∙ after_is in
          ap (λ array. array ∷ []) e
          ∙ ap (λ array. slice_set (the_arrays (rules_of sizes) sectors) 0 (splice array x moved)) (sym array_is)
          ∙ ap (λ k. slice_set (the_arrays (rules_of sizes) sectors) k (splice (get_or s.arrays r.volume []) x moved)) (sym (volume_zero sizes r bounded))
          ∙ ap (λ arrays. slice_set arrays r.volume (splice (get_or s.arrays r.volume []) x moved)) (sym arrays_are)

      long_by : (f : Bool) (x : ℕ) → after ≡ (if f then splice sectors x moved else sectors) → x + length moved ≤ length sectors → length after ≡ length sectors
      long_by true x e fits = ap (λ xs. length xs) e ∙ length-splice sectors x moved fits
      long_by false x e fits = ap (λ xs. length xs) e

      left_by : (f : Bool) → sizes.faithful ≡ f → (x : ℕ) → after ≡ (if f then splice sectors x moved else sectors) → length after ≡ length sectors
          → the_arrays (rules_of sizes) after ≡ (if sizes.faithful then slice_set s.arrays r.volume (splice (get_or s.arrays r.volume []) x moved) else s.arrays)
      left_by true is x e long = rw is (written_is x e long)
      left_by false is x e long = rw is (ap (λ xs. the_arrays (rules_of sizes) xs) e ∙ sym arrays_are)

  carried_flush : r.kind ≡ Flush → AsksFor (rules_of sizes) r srb → Means srb.block command → CarriesOut faithful told sizes.sector_size sectors srb.data command moved after
      → IsCarried (rules_of sizes) s r Flush srb sectors moved after left
  carried_flush is asks means performs =
      let rules : Rules = rules_of sizes in
      let m : Means srb.block (flush_command rules.disk_sectors) = subst (λ k. Means srb.block (command_for rules (as_client rules r []) (record { first = 0; count = places_of rules r }) k)) is asks.asks in
      let p : CarriesOut faithful told sizes.sector_size sectors srb.data (Sync10 0 0) moved after = as_flush faithful told srb.block _ sectors srb.data command moved after (flush_forms srb.block rules.disk_sectors m) means performs in
      let out = flushed_out faithful told sizes.sector_size sectors srb.data 0 0 moved after p in
      let one : places_of rules r ≡ 1 = places_flush sizes r (ap is_transfer is) in
      let none : take sizes.sector_size [] ≡ [] = take_all sizes.sector_size [] (omega arith) in
      record {
        moves = (out.0, ap (λ xs. the_arrays rules xs) out.1 ∙ sym arrays_are);
        covers = ap (λ xs. length xs) out.0 ∙ sym one;
        parts = rw (one, out.0) (ap (λ part. part ∷ []) none);
        sent = refl;
        long = ap (λ xs. length xs) out.1;
        filled = λ e. absurd (cc (e, is));
        empty = λ _. ap concat out.0;
      }

  pub carried : (kind : Kind) → r.kind ≡ kind → AsksFor (rules_of sizes) r srb → Means srb.block command → CarriesOut faithful told sizes.sector_size sectors srb.data command moved after
      → IsCarried (rules_of sizes) s r kind srb sectors moved after left
  carried Read is asks means performs = carried_read is asks means performs
  carried Write is asks means performs = carried_write is asks means performs
  carried Flush is asks means performs = carried_flush is asks means performs
