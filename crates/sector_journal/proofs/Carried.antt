-- A command carried out on a medium, as its entry says it.
use Rattle.sector_journal.proofs.Common.{◌≡◌, ◌≤◌, ℕ, ◌+◌, ◌*◌, ◌==◌, Bool, true, false, not, List, [], ◌∷◌, length, slice_range, All, Option, Some, None, Ok, refl, sym, ap, subst, ◌∙◌, arith, length-append, if◌then◌else◌, concat, and_parts, Decides-eqb, All-head, All-tail, none_first, Extent, IsSector, splice, Cdb, Read10, Write10, Sync10, ReadCapacity10, Read16, Write16, Sync16, ReadCapacity16, Means, Srb, Kind, Read, Write, Flush, Entry, Completion, Performs, Performs-length, MayBeOf, IsTransferOf, IsFlushOf, MediumView, HasWholeSectors, CarriesOut, FailsBy, disk_of, with_data, Disk, fault_of, fault_of_command, is_execute, is_past_end, fits, flags_of, bytes_of, invalid_request, error, fault_is_bad, length-extent, All-extent, ReplaysKind, named, Enters, Refuses}

-- WHAT NO FAULT SAYS

as_long : (disk : Disk) (srb : Srb) (command : Cdb) → fault_of disk srb (Ok command) ≡ None → length srb.data ≡ bytes_of disk.sector_size command
as_long disk srb command none = by_execute (is_execute srb.function) none
  where
    by_fits : (b : Bool) → fits disk srb command ≡ b → fault_of_command disk srb command ≡ None → length srb.data ≡ bytes_of disk.sector_size command
    by_fits true is h = (Decides-eqb (length srb.data) (bytes_of disk.sector_size command)).0 (and_parts (srb.flags.0 == flags_of command) _ is).1
    by_fits false is h =
        let past = none_first (is_past_end disk command) (error 5 0x21 0x00) _ h in
        let fit : not (fits disk srb command) ≡ false = (none_first (not (fits disk srb command)) invalid_request _ past.1).0 in
        let misfit : not (fits disk srb command) ≡ true = ap not is in
        cc (fit, misfit)

    by_execute : (b : Bool) → (if b then fault_of_command disk srb command else Some invalid_request) ≡ None → length srb.data ≡ bytes_of disk.sector_size command
    by_execute true h = by_fits (fits disk srb command) refl h
    by_execute false h = absurd (cc (h))

concat_sized : (size : ℕ) (xs : List (List ℕ)) → All (IsSector size) xs → length (concat xs) ≡ length xs * size
concat_sized size [] sized = let z : 0 ≡ 0 * size = omega arith in z
concat_sized size (x ∷ xs) sized =
    let one : length x ≡ size = All-head (IsSector size) x xs sized in
    let rest : length (concat xs) ≡ length xs * size = concat_sized size xs (All-tail (IsSector size) x xs sized) in
    length-append x (concat xs) ∙ omega (arith, one, rest)

-- WHAT IS ENTERED

record IsEntered (size : ℕ) (sectors : List (List ℕ)) (bytes0 : List ℕ) (entry : Entry) (command : Cdb) (after : List (List ℕ)) : Type 0 where
  may : MayBeOf size (length sectors) bytes0 entry command
  replays : ReplaysKind size sectors entry.extent entry.bytes entry.kind after

abbrev entry_with : ℕ → ℕ → Kind → ℕ → ℕ → List ℕ → Entry
entry_with piece tag kind lba count bytes = record { piece = piece; tag = tag; extent = record { first = lba; count = count }; kind = kind; bytes = bytes }

abbrev named_as : Kind → Extent → Option (Kind × Extent)
named_as kind extent = Some (kind, extent)

abbrev kind_in : Option (Kind × Extent) → Kind
kind_in (Some what) = what.0
kind_in None = Read

abbrev extent_in : Option (Kind × Extent) → Extent
extent_in (Some what) = what.1
extent_in None = record { first = 0; count = 0 }

module _ (size : ℕ) (sectors : List (List ℕ)) (bytes0 : List ℕ) (piece tag : ℕ) (bytes : List ℕ) (moved after : List (List ℕ)) (sized : All (IsSector size) sectors) (bytes_are : bytes ≡ concat moved) where
  read_in : (lba count : ℕ) → lba + count ≤ length sectors → moved ≡ slice_range sectors lba (lba + count) → after ≡ sectors → length bytes0 ≡ count * size
      → IsTransferOf size (length sectors) bytes0 Read lba count (entry_with piece tag Read lba count bytes) × ReplaysKind size sectors (record { first = lba; count = count }) bytes Read after
  read_in lba count inside moved_is same long =
      let part : All (IsSector size) (slice_range sectors lba (lba + count)) = All-extent size sectors lba count sized in
      let n : length (concat (slice_range sectors lba (lba + count))) ≡ count * size = concat_sized size (slice_range sectors lba (lba + count)) part ∙ ap (λ k. k * size) (length-extent sectors lba count inside) in
      let b : bytes ≡ concat (slice_range sectors lba (lba + count)) = bytes_are ∙ ap concat moved_is in (
        record { kind_is = refl; first_is = refl; count_is = refl; inside = inside; whole = long; as_many = ap length b ∙ n ∙ sym long },
        (b, same),
      )

  write_in : (lba count : ℕ) → lba + count ≤ length sectors → concat moved ≡ bytes0 → length moved ≡ count → All (IsSector size) moved → after ≡ splice sectors lba moved → length bytes0 ≡ count * size
      → (IsTransferOf size (length sectors) bytes0 Write lba count (entry_with piece tag Write lba count bytes) × (bytes ≡ bytes0)) × ReplaysKind size sectors (record { first = lba; count = count }) bytes Write after
  write_in lba count inside cut many whole is long =
      let b : bytes ≡ bytes0 = bytes_are ∙ cut in (
        (record { kind_is = refl; first_is = refl; count_is = refl; inside = inside; whole = long; as_many = ap length b }, b),
        (moved, sym bytes_are, many, whole, is),
      )

  flush_in : (lba count : ℕ) → moved ≡ [] ∷ [] → length bytes0 ≡ 0 → IsFlushOf bytes0 lba count (entry_with piece tag Flush lba count bytes)
  flush_in lba count none long =
      let b : bytes ≡ [] = bytes_are ∙ ap concat none in
      record { kind_is = refl; first_is = refl; count_is = refl; none = long; none_booked = ap length b }

  abbrev Is : Cdb → Kind → Extent → Type 0
  Is command kind extent = IsEntered size sectors bytes0 (record { piece = piece; tag = tag; extent = extent; kind = kind; bytes = bytes }) command after

  by_name : (command : Cdb) (kind0 kind : Kind) (extent0 extent : Extent) → named_as kind0 extent0 ≡ named_as kind extent → Is command kind0 extent0 → Is command kind extent
  by_name command kind0 kind extent0 extent is h =
      let k : kind0 ≡ kind = ap kind_in is in
      let e : extent0 ≡ extent = ap extent_in is in
      subst (λ (x : Kind). Is command x extent) k (subst (λ (x : Extent). Is command kind0 x) e h)

  entered : (command : Cdb) (kind : Kind) (extent : Extent) → named command ≡ Some (kind, extent) → length bytes0 ≡ bytes_of size command → Performs size sectors bytes0 command moved after
      → IsEntered size sectors bytes0 (record { piece = piece; tag = tag; extent = extent; kind = kind; bytes = bytes }) command after
  entered (Read10 lba count fua) kind extent is long h =
      let got = read_in lba count h.0 h.1 h.2 long in
      by_name (Read10 lba count fua) Read kind (record { first = lba; count = count }) extent is (record { may = got.0; replays = got.1 })
  entered (Read16 lba count fua) kind extent is long h =
      let got = read_in lba count h.0 h.1 h.2 long in
      by_name (Read16 lba count fua) Read kind (record { first = lba; count = count }) extent is (record { may = got.0; replays = got.1 })
  entered (Write10 lba count fua) kind extent is long h =
      let got = write_in lba count h.0 h.1 h.2 h.3 h.4 long in
      by_name (Write10 lba count fua) Write kind (record { first = lba; count = count }) extent is (record { may = got.0; replays = got.1 })
  entered (Write16 lba count fua) kind extent is long h =
      let got = write_in lba count h.0 h.1 h.2 h.3 h.4 long in
      by_name (Write16 lba count fua) Write kind (record { first = lba; count = count }) extent is (record { may = got.0; replays = got.1 })
  entered (Sync10 lba count) kind extent is long h =
      by_name (Sync10 lba count) Flush kind (record { first = lba; count = count }) extent is (record { may = flush_in lba count h.0 long; replays = h.1 })
  entered (Sync16 lba count) kind extent is long h =
      by_name (Sync16 lba count) Flush kind (record { first = lba; count = count }) extent is (record { may = flush_in lba count h.0 long; replays = h.1 })
  entered ReadCapacity10 kind extent is long h = absurd (cc (is))
  entered (ReadCapacity16 allocation) kind extent is long h = absurd (cc (is))

-- WHAT THE MEDIUM SHOWS

pub moved_enters : (view : MediumView) (write_protected : Bool) (srb : Srb) (bytes : List ℕ) (view' : MediumView) (tag piece : ℕ) (kind : Kind) (extent : Extent)
    → HasWholeSectors view → CarriesOut view write_protected srb (with_data bytes srb) view' → ((command : Cdb) → Means srb.block command → named command ≡ Some (kind, extent))
    → Enters view write_protected tag piece srb (record { piece = piece; tag = tag; extent = extent; kind = kind; bytes = bytes }) view'
moved_enters view write_protected srb bytes view' tag piece kind extent whole carries is =
    let sectors_are : view'.sectors ≡ carries.sectors = ap (λ (v : MediumView). v.sectors) carries.after in
    let long : length srb.data ≡ bytes_of view.sector_size carries.command = as_long (disk_of view write_protected) srb carries.command carries.no_fault in
    let bytes_are : bytes ≡ concat carries.moved = ap (λ (s : Srb). s.data) carries.comes_back ∙ carries.bytes_are in
    let got = entered view.sector_size view.sectors srb.data piece tag bytes carries.moved carries.sectors whole bytes_are carries.command kind extent
    (is carries.command carries.means) long carries.performs in
    record {
      no_row = record { command = carries.command; means = carries.means; no_fault = carries.no_fault };
      is_piece = refl;
      is_tag = refl;
      of_srb = record { command = carries.command; means = carries.means; may = got.may };
      replays = subst (λ (x : List (List ℕ)). ReplaysKind view.sector_size view.sectors extent bytes kind x) (sym sectors_are) got.replays;
      as_many = ap length sectors_are ∙ Performs-length view.sector_size view.sectors srb.data carries.command carries.moved carries.sectors carries.performs;
      after = carries.after ∙ ap (λ (x : List (List ℕ)). record view { sectors = x }) (sym sectors_are);
    }

pub failed_refuses : (view : MediumView) (write_protected : Bool) (srb srb' : Srb) (completion : Completion) (view' : MediumView)
    → FailsBy view write_protected srb srb' completion view' → Refuses view write_protected srb completion view'
failed_refuses view write_protected srb srb' completion view' fails =
    let failures_are : view'.failures ≡ fails.failures = ap (λ (v : MediumView). v.failures) fails.after in
    record {
      by_row = record { decoded = fails.decoded; decodes = fails.decodes; fault = fails.fault };
      is_bad = fault_is_bad (disk_of view write_protected) srb fails.decoded completion fails.fault;
      counted = subst (λ (x : ℕ). x ≤ view.failures + 1) (sym failures_are) fails.counted;
      after = fails.after ∙ ap (λ (x : ℕ). record view { failures = x }) (sym failures_are);
    }
