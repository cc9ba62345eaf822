-- A piece that ends as it was booked, as an adapter whose sectors stand elsewhere shows it.
use Rattle.std.proofs.Common.{◌≡◌, ◌≢◌, ◌<◌, ◌≤◌, inl, inr, ℕ, ◌+◌, ◌*◌, ◌==◌, ◌&&◌, not, Bool, true, false, IsTrue, List, [], ◌∷◌, length, slice_set, All, Some, None, Ok, MatchBool, IsPermutation, refl, sym, ap, subst, ◌∙◌, arith, length-set, if◌then◌else◌}
use Rattle.std.specs.List.{concat}
use Rattle.std.specs.Simd.{first_chunks}
use Rattle.std.proofs.lemmas.List.{nil_from_length}
use Rattle.std.proofs.lemmas.Bool.Decides.{Decides-eqb}
use Rattle.ntstatus.proofs.First.{none_first}
use Rattle.sector.specs.Extents.{IsSector}
use Rattle.cdb.specs.declared.Cdb.{Cdb}
use Rattle.cdb.specs.declared.Cdb.TheVariants.{Read10, Write10, Sync10, ReadCapacity10, Read16, Write16, Sync16, ReadCapacity16}
use Rattle.cdb.specs.Meaning.{Means}
use Rattle.srb.specs.declared.Srb.{Srb}
use Rattle.srb.specs.declared.Completion.{Completion}
use Rattle.srb.specs.declared.Entry.{Entry}
use Rattle.srb.specs.declared.Class.TheVariants.{Bad}
use Rattle.srb.specs.Fate.{class_of}
use Rattle.adapter.specs.Performing.{Performs, CarriesOut}
use Rattle.adapter.specs.View.{TagInUse, AdapterView, IsInOrder, IsAsBooked, ActsOn, FaultsOn}
use Rattle.adapter.specs.Calls.{IsBooked, ActsOrFaults, ActsNot}
use Rattle.adapter.specs.Booking.{MayBeOf}
use Rattle.adapter.proofs.Booked.{on_tag_once, is_there}
use Rattle.disk.specs.inside.Chunks.{All-first_chunks}
use Rattle.disk.specs.Medium.{MediumView, HasWholeSectors}
use Rattle.disk.proofs.Cutting.{length-first_chunks, concat-first_chunks}
use Rattle.miniport.specs.declared.on_tag.OnTag.{OnTag}
use Rattle.miniport.specs.declared.on_tag.Progress.TheVariants.{Untouched}
use Rattle.miniport.specs.declared.on_tag.Booking.{Booking}
use Rattle.miniport.specs.declared.on_tag.Booking.TheVariants.{Nothing, Bytes, Failure}
use Rattle.miniport.specs.declared.carrying.Outcome.{Outcome}
use Rattle.miniport.specs.declared.carrying.Outcome.TheVariants.{Moved, Failed}
use Rattle.miniport.specs.Apart.{apart}
use Rattle.miniport.specs.inside.Apart.{EndsFailed, EndsUnbooked, EndsAsBooked, ActsApartIn, moved_as_booked}
use Rattle.miniport.specs.Carrying.{disk_of}
use Rattle.miniport.specs.Faults.{Disk, fault_of, fault_of_command, is_execute, is_past_end, is_write, fits, invalid_request, error}
use Rattle.miniport.specs.Moving.{moved_by}
use Rattle.miniport.specs.Planned.{hardware_error}
use Rattle.miniport.specs.inside.Slots.{Table, piece_at, in_use_of, tags_of, has_bytes, with_slot, with_moved, with_failed}
use Rattle.miniport.specs.Memory.{MemView, shown_of, view_of}
use Rattle.miniport.specs.inside.Memory.{AdapterKept, HasBooked, PutsBack, ActsNotIn}
use Rattle.miniport.proofs.Acts.{is_below, table_moved, table_failed, whole_bytes, acts_not}
use Rattle.miniport.proofs.Bad.{fault_is_bad}
use Rattle.miniport.proofs.Keeping.{in_order, moved_piece, failed_piece, move_kept, fail_kept}
use Rattle.miniport.proofs.Sectors.{length-extent, All-extent, moved_transfer}
use Rattle.miniport.proofs.Showing.{shows_acted, untouched_is_fresh, faults}
use Rattle.miniport.proofs.TagsInUse.{taken_first, filled, tags_differ}

-- WHAT THE BOOKED BYTES ARE

-- the sectors that a piece moves, told of by an adapter that doesn't have them
record IsTold (size : ℕ) (sectors : List (List ℕ)) (told : Bool) (srb : Srb) (bytes : List ℕ) : Type 0 where
  command : Cdb
  moved : List (List ℕ)
  means : Means srb.block command
  carries : CarriesOut false told size sectors srb.data command moved sectors
  bytes_are : bytes ≡ concat moved
  moved_is : moved ≡ moved_by size srb.block bytes

untold : {P : Type 0} → (told : Bool) → told ≡ false → IsTrue told → P
untold told is true_it = absurd (cc (is, true_it))

told_so : (size : ℕ) (sectors : List (List ℕ)) (told : Bool) → told ≡ false → (srb : Srb) (entry : Entry) (command : Cdb) → Means srb.block command → MayBeOf size (length sectors) srb.data entry command
    → IsTold size sectors told srb entry.bytes
told_so size sectors told hid srb entry (Read10 lba count fua) means h =
    let moved = first_chunks size count entry.bytes in
    let long : length entry.bytes ≡ count * size = h.as_many ∙ h.whole in
    record {
      command = Read10 lba count fua;
      moved = moved;
      means = means;
      carries = ((h.inside, length-first_chunks size count entry.bytes, All-first_chunks size count entry.bytes long, untold told hid), refl);
      bytes_are = sym (concat-first_chunks size count entry.bytes long);
      moved_is = moved_transfer size srb.block entry.bytes (Read10 lba count fua) moved refl means (inl refl);
    }
told_so size sectors told hid srb entry (Read16 lba count fua) means h =
    let moved = first_chunks size count entry.bytes in
    let long : length entry.bytes ≡ count * size = h.as_many ∙ h.whole in
    record {
      command = Read16 lba count fua;
      moved = moved;
      means = means;
      carries = ((h.inside, length-first_chunks size count entry.bytes, All-first_chunks size count entry.bytes long, untold told hid), refl);
      bytes_are = sym (concat-first_chunks size count entry.bytes long);
      moved_is = moved_transfer size srb.block entry.bytes (Read16 lba count fua) moved refl means (inl refl);
    }
told_so size sectors told hid srb entry (Write10 lba count fua) means (h, same) =
    let moved = first_chunks size count entry.bytes in
    let long : length entry.bytes ≡ count * size = h.as_many ∙ h.whole in
    record {
      command = Write10 lba count fua;
      moved = moved;
      means = means;
      carries = ((h.inside, concat-first_chunks size count entry.bytes long ∙ same, length-first_chunks size count entry.bytes, All-first_chunks size count entry.bytes long), refl);
      bytes_are = sym (concat-first_chunks size count entry.bytes long);
      moved_is = moved_transfer size srb.block entry.bytes (Write10 lba count fua) moved refl means (inr refl);
    }
told_so size sectors told hid srb entry (Write16 lba count fua) means (h, same) =
    let moved = first_chunks size count entry.bytes in
    let long : length entry.bytes ≡ count * size = h.as_many ∙ h.whole in
    record {
      command = Write16 lba count fua;
      moved = moved;
      means = means;
      carries = ((h.inside, concat-first_chunks size count entry.bytes long ∙ same, length-first_chunks size count entry.bytes, All-first_chunks size count entry.bytes long), refl);
      bytes_are = sym (concat-first_chunks size count entry.bytes long);
      moved_is = moved_transfer size srb.block entry.bytes (Write16 lba count fua) moved refl means (inr refl);
    }
told_so size sectors told hid srb entry (Sync10 lba count) means h = record {
  command = Sync10 lba count;
  moved = [] ∷ [];
  means = means;
  carries = (refl, refl);
  bytes_are = nil_from_length entry.bytes h.none_booked;
  moved_is = rw means.0.operation refl;
}
told_so size sectors told hid srb entry (Sync16 lba count) means h = record {
  command = Sync16 lba count;
  moved = [] ∷ [];
  means = means;
  carries = (refl, refl);
  bytes_are = nil_from_length entry.bytes h.none_booked;
  moved_is = rw means.0.operation refl;
}
told_so size sectors told hid srb entry ReadCapacity10 means h = absurd h
told_so size sectors told hid srb entry (ReadCapacity16 allocation) means h = absurd h

told_booked : (size : ℕ) (sectors : List (List ℕ)) (told : Bool) → told ≡ false → (srb : Srb) → HasBooked size (length sectors) srb → IsTold size sectors told srb srb.data
told_booked size sectors told hid srb (entry, is, same) = subst (IsTold size sectors told srb) (sym same) (told_so size sectors told hid srb entry is.command is.means is.may)

-- PIECE 0, WHICH READS WHAT IS SHOWN

true_false : {b : Bool} → b ≡ true → b ≡ false → ⊥
true_false t f = cc (t, f)

-- no write is carried out
not_a_write : (disk : Disk) (srb : Srb) (command : Cdb) → disk.write_protected ≡ true → fault_of disk srb (Ok command) ≡ None → is_write command ≡ false
not_a_write disk srb command protected none = by_execute (is_execute srb.function) none
  where
    by_write : (b : Bool) → is_write command ≡ b → fault_of_command disk srb command ≡ None → is_write command ≡ false
    by_write false is h = is
    by_write true is h =
        let past = none_first (is_past_end disk command) (error 5 0x21 0x00) _ h in
        let fit = none_first (not (fits disk srb command)) invalid_request _ past.1 in
        let wrote = none_first (is_write command && disk.write_protected) (error 7 0x27 0x00) _ fit.1 in
        let both : (is_write command && disk.write_protected) ≡ true = rw (is, protected) refl in
        absurd (true_false both wrote.0)

    by_execute : (b : Bool) → (if b then fault_of_command disk srb command else Some invalid_request) ≡ None → is_write command ≡ false
    by_execute true h = by_write (is_write command) refl h
    by_execute false h = absurd (cc (h))

shown_to : (size : ℕ) (sectors : List (List ℕ)) (bytes : List ℕ) (command : Cdb) (moved after : List (List ℕ)) → All (IsSector size) sectors → is_write command ≡ false
    → Performs size sectors bytes command moved after → CarriesOut false true size sectors bytes command moved sectors × (after ≡ sectors)
shown_to size sectors bytes (Read10 lba count fua) moved after whole reads h =
    (((h.0, ap length h.1 ∙ length-extent sectors lba count h.0, subst (All (IsSector size)) (sym h.1) (All-extent size sectors lba count whole), λ _. h.1), refl), h.2)
shown_to size sectors bytes (Read16 lba count fua) moved after whole reads h =
    (((h.0, ap length h.1 ∙ length-extent sectors lba count h.0, subst (All (IsSector size)) (sym h.1) (All-extent size sectors lba count whole), λ _. h.1), refl), h.2)
shown_to size sectors bytes (Write10 lba count fua) moved after whole reads h = absurd (cc (reads))
shown_to size sectors bytes (Write16 lba count fua) moved after whole reads h = absurd (cc (reads))
shown_to size sectors bytes (Sync10 lba count) moved after whole reads h = ((h.0, refl), h.1)
shown_to size sectors bytes (Sync16 lba count) moved after whole reads h = ((h.0, refl), h.1)
shown_to size sectors bytes ReadCapacity10 moved after whole reads h = ((h.0, refl), h.1)
shown_to size sectors bytes (ReadCapacity16 allocation) moved after whole reads h = ((h.0, refl), h.1)

-- AN ACT

acts_apart : (m : MediumView) (longest : ℕ) (t : Table) (tag : ℕ) (on : OnTag) (bytes : List ℕ) → tag < length t.slots → piece_at t.slots tag ≡ Some on → on.progress ≡ Untouched
    → IsTold m.sector_size m.sectors (on.piece == 0) on.srb bytes → IsAsBooked false on.piece (in_use_of m.sector_size tag on) bytes
    → ActsOn (apart (shown_of m longest t)) tag on.piece bytes (apart (shown_of m longest (with_moved tag (moved_piece on bytes) t)))
acts_apart m longest t tag on bytes below there untouched told as_booked = record {
  use' = in_use_of m.sector_size tag on;
  others = tags_of m.sector_size 0 (slice_set t.slots tag None);
  command = told.command;
  moved = told.moved;
  sectors = m.sectors;
  left = 0;
  tags = tags_of m.sector_size 0 (slice_set t.slots tag (Some (moved_piece on bytes)));
  is_on = record { in_use = taken_first m.sector_size t.slots tag on there; has_tag = refl };
  is_piece = refl;
  is_fresh = untouched_is_fresh m.sector_size tag on untouched;
  means = told.means;
  performs = told.carries;
  hands_over = told.bytes_are;
  as_booked = as_booked;
  in_use = subst (λ (u : TagInUse). IsPermutation (tags_of m.sector_size 0 (slice_set t.slots tag (Some (moved_piece on bytes)))) (u ∷ tags_of m.sector_size 0 (slice_set t.slots tag None)))
      (shows_acted m.sector_size tag on bytes told.moved told.bytes_are told.moved_is) (filled m.sector_size t.slots tag (moved_piece on bytes) below);
  after = ap (λ (d : ℕ). record (apart (shown_of m longest (with_moved tag (moved_piece on bytes) t))) { depth = d }) (length-set t.slots tag (Some (moved_piece on bytes)));
}

pub faults_apart : (old new : AdapterView) (tag piece : ℕ) → FaultsOn old tag piece new → FaultsOn (apart old) tag piece (apart new)
faults_apart old new tag piece h = record {
  use' = h.use';
  others = h.others;
  tags = h.tags;
  failures = h.failures;
  left = h.left;
  is_on = record { in_use = h.is_on.in_use; has_tag = h.is_on.has_tag };
  is_piece = h.is_piece;
  is_fresh = h.is_fresh;
  counted = h.counted;
  spoiled = h.spoiled;
  in_use = h.in_use;
  after = ap apart h.after;
}

not_booked_by : (m : MediumView) (longest : ℕ) (t : Table) (tag : ℕ) (on : OnTag) → piece_at t.slots tag ≡ Some on → has_bytes on.booking ≡ false → ¬ IsBooked (apart (shown_of m longest t)) tag
not_booked_by m longest t tag on there none h =
    let same : h.use' ≡ in_use_of m.sector_size tag on = on_tag_once (tags_of m.sector_size 0 t.slots) (tags_differ m.sector_size t.slots) h.use' (in_use_of m.sector_size tag on)
    (is_there (apart (shown_of m longest t)) tag h.use' h.others h.is_on)
    (is_there (apart (shown_of m longest t)) tag (in_use_of m.sector_size tag on) (tags_of m.sector_size 0 (slice_set t.slots tag None)) (record { in_use = taken_first m.sector_size t.slots tag on there; has_tag = refl }))
    h.is_on.has_tag in
    let booked : has_bytes on.booking ≡ true = sym (ap (λ (u : TagInUse). u.booked) same) ∙ h.booked in
    cc (booked, none)

-- ALL OF IT

pub record AfterActApart (v : MemView) (tag : ℕ) (b : Bool) (m : MediumView) (longest : ℕ) (t : Table) : Type 0 where
  pub kept : AdapterKept m longest t
  pub order : IsInOrder (shown_of m longest t)
  pub acts : MatchBool b (ActsOrFaults (apart v.shown) tag (apart (shown_of m longest t))) (ActsNot (apart v.shown) tag (apart (shown_of m longest t)))

record Left (m : MediumView) (longest : ℕ) (t : Table) (tag : ℕ) (m' : MediumView) (t' : Table) : Type 0 where
  kept : AdapterKept m' longest t'
  acts : ActsOrFaults (apart (shown_of m longest t)) tag (apart (shown_of m' longest t'))

along : (m : MediumView) (longest : ℕ) (t : Table) (tag : ℕ) (m' m'' : MediumView) (t' t'' : Table) → m'' ≡ m' → t'' ≡ t' → Left m longest t tag m' t' → Left m longest t tag m'' t''
along m longest t tag m' m'' t' t'' e f left = subst (λ (x : MediumView). Left m longest t tag x t'') (sym e) (subst (λ (s : Table). Left m longest t tag m' s) (sym f) left)

module _ (m : MediumView) (longest : ℕ) (t : Table) (tag : ℕ) (on : OnTag) (m' : MediumView) (t' : Table) (whole : HasWholeSectors m) (kept : AdapterKept m longest t) (place : length t.labels < 64)
    (there : piece_at t.slots tag ≡ Some on) (untouched : on.progress ≡ Untouched) where
  below : tag < length t.slots
  below = is_below t.slots tag on there

  moved_left : (bytes : List ℕ) → IsTold m.sector_size m.sectors (on.piece == 0) on.srb bytes → IsAsBooked false on.piece (in_use_of m.sector_size tag on) bytes
      → Left m longest t tag m (with_moved tag (moved_piece on bytes) t)
  moved_left bytes told as_booked = record {
    kept = move_kept m longest t tag on bytes m.sectors kept below there untouched refl (whole_bytes m.sector_size on.srb.block bytes told.moved told.bytes_are told.moved_is) place;
    acts = record { piece = on.piece; one_of = inl (bytes, acts_apart m longest t tag on bytes below there untouched told as_booked) };
  }

  failed_left : (completion : Completion) (k : ℕ) → class_of completion ≡ Bad completion → k ≤ m.failures + 1 → has_bytes on.booking ≡ false
      → Left m longest t tag (record m { failures = k }) (with_failed tag (failed_piece on completion) t)
  failed_left completion k bad counted none = record {
    kept = fail_kept m longest t tag on completion k kept below there untouched bad counted place;
    acts = record {
      piece = on.piece;
      one_of = inr (
        faults_apart (shown_of m longest t) (shown_of (record m { failures = k }) longest (with_failed tag (failed_piece on completion) t)) tag on.piece (faults m longest t tag on completion k below there untouched),
        not_booked_by m longest t tag on there none,
      );
    };
  }

  ends_failed : (completion : Completion) → class_of completion ≡ Bad completion → has_bytes on.booking ≡ false → EndsFailed m (with_slot tag None t) tag on completion m' t' → Left m longest t tag m' t'
  ends_failed completion bad none (same, e) =
      along m longest t tag m m' (with_failed tag (failed_piece on completion) t) t' same (table_failed t t' tag on on.srb completion refl e) (failed_left completion m.failures bad (omega arith) none)

  ends_zero : on.piece ≡ 0 → has_bytes on.booking ≡ false → (outcome : Outcome) → PutsBack m true (with_slot tag None t) tag on outcome m' t' → Left m longest t tag m' t'
  ends_zero zero none (Moved srb) (carries, e) =
      let bytes : List ℕ = carries.bytes in
      let reads : is_write carries.command ≡ false = not_a_write (disk_of m true) on.srb carries.command refl carries.no_fault in
      let shown = shown_to m.sector_size m.sectors on.srb.data carries.command carries.moved carries.sectors whole reads carries.performs in
      let first : true ≡ (on.piece == 0) = sym ((Decides-eqb on.piece 0).1 zero) in
      let told : IsTold m.sector_size m.sectors (on.piece == 0) on.srb bytes = record {
        command = carries.command;
        moved = carries.moved;
        means = carries.means;
        carries = subst (λ (b : Bool). CarriesOut false b m.sector_size m.sectors on.srb.data carries.command carries.moved m.sectors) first shown.0;
        bytes_are = carries.bytes_are;
        moved_is = carries.moved_is;
      } in
      along m longest t tag m m' (with_moved tag (moved_piece on bytes) t) t' (carries.after ∙ ap (λ (s : List (List ℕ)). record m { sectors = s }) shown.1) (table_moved t t' tag on srb bytes carries.comes_back e)
      (moved_left bytes told (λ _ other. absurd (other zero)))
  ends_zero zero none (Failed srb completion) (fails, e) =
      along m longest t tag (record m { failures = fails.failures }) m' (with_failed tag (failed_piece on completion) t) t' fails.after (table_failed t t' tag on srb completion fails.same e)
      (failed_left completion fails.failures (fault_is_bad (disk_of m true) on.srb fails.decoded completion fails.fault) fails.counted none)

  ends_unbooked : has_bytes on.booking ≡ false → (b : Bool) → (on.piece == 0) ≡ b → EndsUnbooked b m (with_slot tag None t) tag on m' t' → Left m longest t tag m' t'
  ends_unbooked none true is (outcome, h) = ends_zero ((Decides-eqb on.piece 0).0 is) none outcome h
  ends_unbooked none false is h = ends_failed hardware_error refl none h

  ends_booked : on.booking ≡ Bytes → (m' ≡ m) × (t' ≡ with_moved tag (moved_as_booked on) (with_slot tag None t)) → Left m longest t tag m' t'
  ends_booked is (same, e) =
      let right = (kept.pieces tag on there).booked untouched is in
      let other : (on.piece == 0) ≡ false = by_number (on.piece == 0) refl right.0 in
      along m longest t tag m m' (with_moved tag (moved_piece on on.srb.data) t) t' same
      (table_moved t t' tag on on.srb on.srb.data refl e)
      (moved_left on.srb.data (told_booked m.sector_size m.sectors (on.piece == 0) other on.srb right.1) (λ _ _. (ap has_bytes is, refl)))
    where
      by_number : (b : Bool) → (on.piece == 0) ≡ b → on.piece ≢ 0 → b ≡ false
      by_number true z other = absurd (other ((Decides-eqb on.piece 0).0 z))
      by_number false z other = refl

  ends : (booking : Booking) → on.booking ≡ booking → EndsAsBooked booking m (with_slot tag None t) tag on m' t' → Left m longest t tag m' t'
  ends Nothing is h = ends_unbooked (ap has_bytes is) (on.piece == 0) refl h
  ends Bytes is h = ends_booked is h
  ends (Failure completion) is h = ends_failed completion ((kept.pieces tag on there).failing completion is) (ap has_bytes is) h

not_apart : (old new : AdapterView) (tag : ℕ) → ActsNot old tag new → ActsNot (apart old) tag (apart new)
not_apart old new tag h = record { none_fresh = λ u others on. h.none_fresh u others (record { in_use = on.in_use; has_tag = on.has_tag }); same = ap apart h.same }

acted_so : (m m' : MediumView) (longest : ℕ) (p : Bool) (t t' : Table) (tag : ℕ) (b : Bool) → HasWholeSectors m → HasWholeSectors m' → AdapterKept m longest t → length t.labels < 64
    → MatchBool b (ActsApartIn m t tag m' t') (ActsNotIn m t tag m' t') → AfterActApart (view_of m longest p t) tag b m' longest t'
acted_so m m' longest p t t' tag true whole whole' kept place h =
    let left : Left m longest t tag m' t' = ends m longest t tag h.on m' t' whole kept place h.there h.untouched h.on.booking refl h.ends in
    record { kept = left.kept; order = in_order m' longest t' whole' left.kept; acts = left.acts }
acted_so m m' longest p t t' tag false whole whole' kept place h =
    let keeps : AdapterKept m' longest t' = subst (λ (n : MediumView). AdapterKept n longest t') (sym h.same_medium) (subst (λ (s : Table). AdapterKept m longest s) (sym h.same_table) kept) in
    record { kept = keeps; order = in_order m' longest t' whole' keeps; acts = not_apart (shown_of m longest t) (shown_of m' longest t') tag (acts_not m longest t tag m' t' h) }

pub after_act_apart : (m m' : MediumView) (longest : ℕ) (p : Bool) (t t' : Table) (v : MemView) (tag : ℕ) (b : Bool) → view_of m longest p t ≡ v → HasWholeSectors m → HasWholeSectors m' → AdapterKept m longest t → length v.shown.labels < 64
    → MatchBool b (ActsApartIn m t tag m' t') (ActsNotIn m t tag m' t') → AfterActApart v tag b m' longest t'
after_act_apart m m' longest p t t' v tag b e whole whole' kept =
    subst (λ (u : MemView). length u.shown.labels < 64 → MatchBool b (ActsApartIn m t tag m' t') (ActsNotIn m t tag m' t') → AfterActApart u tag b m' longest t') e (acted_so m m' longest p t t' tag b whole whole' kept)
