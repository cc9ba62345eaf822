-- What the adapter in memory keeps, call by call: it stays in order as any adapter is.
use Rattle.std.proofs.Common.{◌≡◌, ◌<◌, ◌≤◌, ◌^◌, ℕ, ◌+◌, Bool, IsTrue, true, false, List, [], ◌∷◌, ◌++◌, length, slice_set, sum_by, Option, Some, None, refl, sym, ap, ◌∙◌, subst, arith, length-append, length-set, if◌then◌else◌}
use Rattle.std.proofs.lemmas.List.{length-map}
use Rattle.std.specs.List.{concat, flat_map}
use Rattle.srb.specs.declared.Srb.{Srb}
use Rattle.srb.specs.declared.Completion.{Completion}
use Rattle.srb.specs.declared.DeviceLabel.{DeviceLabel}
use Rattle.srb.specs.declared.Class.TheVariants.{Bad}
use Rattle.srb.specs.Fate.{class_of}
use Rattle.adapter.specs.View.{IsInOrder, IsFree}
use Rattle.disk.specs.Medium.{MediumView, HasWholeSectors}
use Rattle.miniport.specs.declared.on_tag.OnTag.{OnTag}
use Rattle.miniport.specs.declared.on_tag.Progress.{Progress}
use Rattle.miniport.specs.declared.on_tag.Progress.TheVariants.{Untouched, Moved, Failed}
use Rattle.miniport.specs.Carrying.{IsReady}
use Rattle.miniport.specs.Moving.{moved_by}
use Rattle.miniport.specs.inside.Slots.{Table, piece_at, emptied, new_piece, with_new, with_moved, with_failed, with_returned, with_reset, slot_after_reset, labels_of_reset}
use Rattle.miniport.specs.Memory.{shown_of}
use Rattle.miniport.specs.inside.Memory.{AdapterKept, IsPieceRight, ArePiecesRight, failures_left, left_by}
use Rattle.miniport.proofs.TagsInUse.{tags_below, tags_differ, is_used}
use Rattle.miniport.proofs.Pieces.{pieces_set, pieces_emptied, pieces_along, more_failures, other_medium, pieces_reset, left_after_set, left_after_reset}
use Rattle.miniport.proofs.Resetting.{few_labels}

pub in_order : (m : MediumView) (longest : ℕ) (t : Table) → HasWholeSectors m → AdapterKept m longest t → IsInOrder (shown_of m longest t)
in_order m longest t whole kept = record {
  sector_size = kept.sector_size;
  sectors = kept.sectors;
  whole_sectors = whole;
  max_transfer = kept.max_transfer;
  depth = kept.depth;
  tags_below = tags_below m.sector_size t.slots;
  tags_differ = tags_differ m.sector_size t.slots;
  failures = omega (arith, kept.failures);
  labels = kept.labels;
}

-- one label more
one_label : {X : Type 0} (xs : List X) (x : X) → length xs < 64 → length (xs ++ x ∷ []) ≤ 64
one_label xs x few = omega (arith, length-append xs (x ∷ []))

-- a free tag's slot is empty
none_at : (size : ℕ) (slots : List (Option OnTag)) (tag : ℕ) (slot : Option OnTag) → piece_at slots tag ≡ slot → (on_none : (on : OnTag) → slot ≡ Some on → ⊥) → slot ≡ None
none_at size slots tag None e h = refl
none_at size slots tag (Some on) e h = absurd (h on refl)

pub empty_slot : (m : MediumView) (longest : ℕ) (t : Table) (tag : ℕ) → IsFree (shown_of m longest t) tag → piece_at t.slots tag ≡ None
empty_slot m longest t tag free = none_at m.sector_size t.slots tag (piece_at t.slots tag) refl
    (λ on e. let used = is_used m.sector_size t.slots tag on e in
    let there = free used.0 used.1 used.2 in there (ap (λ u. u.tag) used.3 ∙ used.4))

-- ACCEPT

new_right : {w : Bool} (m : MediumView) (f piece : ℕ) (srb : Srb) → IsReady m srb → (IsTrue w → length srb.data ≤ srb.for_label) → IsPieceRight w m f (new_piece f piece srb)
new_right m f piece srb ready buffers = record {
  ready = ready;
  buffers = λ e. buffers;
  moved = λ e. absurd cc;
  counted = omega arith;
  failed = λ c e. absurd cc;
  met = λ e. absurd cc;
  booked = λ e b. absurd (cc (b));
  failing = λ c e. absurd (cc (e));
}

pub accept_kept : (m : MediumView) (longest : ℕ) (t : Table) (tag piece : ℕ) (srb : Srb) → AdapterKept m longest t → tag < length t.slots
    → piece_at t.slots tag ≡ None → IsReady m srb → (IsTrue t.keeps_bytes → length srb.data ≤ srb.for_label) → t.accepted < 2 ^ 100 → length t.labels < 64
    → AdapterKept m longest (with_new tag piece srb t)
accept_kept m longest t tag piece srb kept below none ready buffers few place =
    let left : sum_by failures_left (slice_set t.slots tag (Some (new_piece t.failures piece srb))) + failures_left (piece_at t.slots tag) ≡ sum_by failures_left t.slots + 2 =
    left_after_set t.slots tag (Some (new_piece t.failures piece srb)) below in
    record {
      sector_size = kept.sector_size;
      sectors = kept.sectors;
      max_transfer = kept.max_transfer;
      depth = rw (length-set t.slots tag (Some (new_piece t.failures piece srb))) kept.depth;
      pieces = pieces_set t.keeps_bytes m t.failures t.slots tag (new_piece t.failures piece srb) kept.pieces (new_right m t.failures piece srb ready buffers);
      accepted = omega (arith, few);
      failures = omega (arith, left, kept.failures);
      medium_failures = kept.medium_failures;
      labels = one_label t.labels _ place;
    }

-- ACT

-- a piece that has done nothing met no reset, and may count two failures
untouched_left : (b : Bool) (p : Progress) → (b ≡ true → ⊥) → p ≡ Untouched → (if b then 0 else left_by p) ≡ 2
untouched_left true p unmet e = absurd (unmet refl)
untouched_left false p unmet e = ap left_by e

at_most_one : (b : Bool) (p : Progress) → (p ≡ Untouched → ⊥) → (if b then 0 else left_by p) ≤ 1
at_most_one true p touched = omega arith
at_most_one false Untouched touched = absurd (touched refl)
at_most_one false Moved touched = omega arith
at_most_one false (Failed c) touched = omega arith

-- the piece that is on the tag after it acted, and the table that it is put back to
abbrev pub moved_piece : OnTag → List ℕ → OnTag
moved_piece on bytes = record on { srb = emptied bytes on.srb; progress = Moved }

abbrev pub failed_piece : OnTag → Completion → OnTag
failed_piece on completion = record on { progress = Failed completion }

moved_right : {w : Bool} (m : MediumView) (sectors : List (List ℕ)) (f : ℕ) (on : OnTag) (bytes : List ℕ) → length sectors ≡ length m.sectors
    → on.progress ≡ Untouched → concat (moved_by m.sector_size on.srb.block bytes) ≡ bytes → IsPieceRight w m f on
    → IsPieceRight w (record m { sectors = sectors }) f (moved_piece on bytes)
moved_right m sectors f on bytes long untouched whole right = record {
  ready = λ lba count fua means within. right.ready lba count fua means (subst (λ (n : ℕ). lba + count ≤ n) long within);
  buffers = λ e. absurd cc;
  moved = λ e. whole;
  counted = right.counted;
  failed = λ c e. absurd cc;
  met = λ e. absurd ((right.met e).1 untouched);
  booked = λ e b. absurd (cc (e));
  failing = right.failing;
}

same_size_ready : (m : MediumView) (sectors : List (List ℕ)) → length sectors ≡ length m.sectors → (srb : Srb) → IsReady m srb → IsReady (record m { sectors = sectors }) srb
same_size_ready m sectors long srb ready lba count fua means within = ready lba count fua means (subst (λ (n : ℕ). lba + count ≤ n) long within)

-- what was left to a piece that is put back
put_back : {w : Bool} (m : MediumView) (t : Table) (tag : ℕ) (on after : OnTag) → ArePiecesRight w m t.failures t.slots → tag < length t.slots → piece_at t.slots tag ≡ Some on
    → on.progress ≡ Untouched → (after.progress ≡ Untouched → ⊥) → after.was_reset ≡ on.was_reset
    → sum_by failures_left (slice_set t.slots tag (Some after)) + 1 ≤ sum_by failures_left t.slots
put_back m t tag on after pieces below there untouched touched same =
    let unmet : on.was_reset ≡ true → ⊥ = λ e. ((pieces tag on there).met e).1 untouched in
    let before : failures_left (Some on) ≡ 2 = untouched_left on.was_reset on.progress unmet untouched in
    let now : failures_left (Some after) ≤ 1 = at_most_one after.was_reset after.progress touched in
    let was : failures_left (piece_at t.slots tag) ≡ failures_left (Some on) = ap failures_left there in
    omega (arith, before, now, was, left_after_set t.slots tag (Some after) below)

pub move_kept : (m : MediumView) (longest : ℕ) (t : Table) (tag : ℕ) (on : OnTag) (bytes : List ℕ) (sectors : List (List ℕ)) → AdapterKept m longest t
    → tag < length t.slots → piece_at t.slots tag ≡ Some on → on.progress ≡ Untouched → length sectors ≡ length m.sectors
    → concat (moved_by m.sector_size on.srb.block bytes) ≡ bytes → length t.labels < 64
    → AdapterKept (record m { sectors = sectors }) longest (with_moved tag (moved_piece on bytes) t)
move_kept m longest t tag on bytes sectors kept below there untouched long whole place =
    let m' = record m { sectors = sectors } in
    let left : sum_by failures_left (slice_set t.slots tag (Some (moved_piece on bytes))) + 1 ≤ sum_by failures_left t.slots =
    put_back m t tag on (moved_piece on bytes) kept.pieces below there untouched (λ e. absurd cc) refl in
    let others : ArePiecesRight _ m' t.failures t.slots =
    pieces_along m m' t.failures t.failures t.slots (other_medium m m' t.failures refl long (same_size_ready m sectors long)) kept.pieces in
    record {
      sector_size = kept.sector_size;
      sectors = rw long kept.sectors;
      max_transfer = kept.max_transfer;
      depth = rw (length-set t.slots tag (Some (moved_piece on bytes))) kept.depth;
      pieces = pieces_set t.keeps_bytes m' t.failures t.slots tag (moved_piece on bytes) others
          (moved_right m sectors t.failures on bytes long untouched whole (kept.pieces tag on there));
      accepted = kept.accepted;
      failures = omega (arith, left, kept.failures);
      medium_failures = kept.medium_failures;
      labels = one_label t.labels _ place;
    }

failed_right : {w : Bool} (m : MediumView) (k f : ℕ) (on : OnTag) (completion : Completion) → class_of completion ≡ Bad completion → on.progress ≡ Untouched
    → IsPieceRight w m f on → IsPieceRight w (record m { failures = k }) (f + 1) (failed_piece on completion)
failed_right m k f on completion bad untouched right = record {
  ready = right.ready;
  buffers = λ e. absurd cc;
  moved = λ e. absurd cc;
  counted = omega (arith, right.counted);
  failed = λ c e. (let same : completion ≡ c = cc in subst (λ (d : Completion). class_of d ≡ Bad d) same bad, omega (arith, right.counted));
  met = λ e. absurd ((right.met e).1 untouched);
  booked = λ e b. absurd (cc (e));
  failing = right.failing;
}

pub fail_kept : (m : MediumView) (longest : ℕ) (t : Table) (tag : ℕ) (on : OnTag) (completion : Completion) (k : ℕ) → AdapterKept m longest t
    → tag < length t.slots → piece_at t.slots tag ≡ Some on → on.progress ≡ Untouched → class_of completion ≡ Bad completion → k ≤ m.failures + 1
    → length t.labels < 64 → AdapterKept (record m { failures = k }) longest (with_failed tag (failed_piece on completion) t)
fail_kept m longest t tag on completion k kept below there untouched bad counted place =
    let m' = record m { failures = k } in
    let left : sum_by failures_left (slice_set t.slots tag (Some (failed_piece on completion))) + 1 ≤ sum_by failures_left t.slots =
    put_back m t tag on (failed_piece on completion) kept.pieces below there untouched (λ e. absurd cc) refl in
    let others : ArePiecesRight _ m' (t.failures + 1) t.slots =
    pieces_along m m' t.failures (t.failures + 1) t.slots
    (λ p right. more_failures m' t.failures (t.failures + 1) (omega arith) p (other_medium m m' t.failures refl refl (λ srb ready. ready) p right)) kept.pieces in
    record {
      sector_size = kept.sector_size;
      sectors = kept.sectors;
      max_transfer = kept.max_transfer;
      depth = rw (length-set t.slots tag (Some (failed_piece on completion))) kept.depth;
      pieces = pieces_set t.keeps_bytes m' (t.failures + 1) t.slots tag (failed_piece on completion) others
          (failed_right m k t.failures on completion bad untouched (kept.pieces tag on there));
      accepted = kept.accepted;
      failures = omega (arith, left, kept.failures);
      medium_failures = omega (arith, counted, kept.medium_failures);
      labels = one_label t.labels _ place;
    }

-- FINISH

pub finish_kept : (m : MediumView) (longest : ℕ) (t : Table) (tag : ℕ) (on : OnTag) → AdapterKept m longest t → tag < length t.slots → length t.labels < 64
    → AdapterKept m longest (with_returned tag on t)
finish_kept m longest t tag on kept below place =
    let left : sum_by failures_left (slice_set t.slots tag None) + failures_left (piece_at t.slots tag) ≡ sum_by failures_left t.slots + 0 =
    left_after_set t.slots tag None below in
    record {
      sector_size = kept.sector_size;
      sectors = kept.sectors;
      max_transfer = kept.max_transfer;
      depth = rw (length-set t.slots tag None) kept.depth;
      pieces = pieces_emptied m t.failures t.slots tag kept.pieces;
      accepted = kept.accepted;
      failures = omega (arith, left, kept.failures);
      medium_failures = kept.medium_failures;
      labels = one_label t.labels _ place;
    }

-- RESET

pub reset_kept : (m : MediumView) (longest : ℕ) (t : Table) → AdapterKept m longest t → length t.labels + length t.slots ≤ 64 → AdapterKept m longest (with_reset t)
reset_kept m longest t kept places = record {
  sector_size = kept.sector_size;
  sectors = kept.sectors;
  max_transfer = kept.max_transfer;
  depth = rw (length-map t.slots slot_after_reset) kept.depth;
  pieces = pieces_reset m t.failures t.slots kept.pieces;
  accepted = kept.accepted;
  failures = omega (arith, left_after_reset t.slots, kept.failures);
  medium_failures = omega (arith, kept.medium_failures);
  labels = omega (arith, length-append t.labels (flat_map labels_of_reset t.slots), few_labels t.slots, places);
}

-- BYTES OF LABELS NOTED

quiet_piece : (w : Bool) (m : MediumView) (f : ℕ) (on : OnTag) → IsPieceRight w m f on → IsPieceRight false m f on
quiet_piece w m f on right = record {
  ready = right.ready;
  buffers = λ e b. absurd (cc (b));
  moved = right.moved;
  counted = right.counted;
  failed = right.failed;
  met = right.met;
  booked = right.booked;
  failing = right.failing;
}

pub noting_kept : (m : MediumView) (longest : ℕ) (t t' : Table) → t' ≡ record t { keeps_bytes = false } → AdapterKept m longest t → AdapterKept m longest t'
noting_kept m longest t t' e kept = subst (λ (u : Table). AdapterKept m longest u) (sym e) (record {
  sector_size = kept.sector_size;
  sectors = kept.sectors;
  max_transfer = kept.max_transfer;
  depth = kept.depth;
  pieces = λ tag on there. quiet_piece t.keeps_bytes m t.failures on (kept.pieces tag on there);
  accepted = kept.accepted;
  failures = kept.failures;
  medium_failures = kept.medium_failures;
  labels = kept.labels;
})

-- FEWER LABELS

pub is_short : (m : MediumView) (longest : ℕ) (t : Table) (labels : List DeviceLabel) → length labels ≤ length t.labels → AdapterKept m longest t
    → AdapterKept m longest (record t { labels = labels })
is_short m longest t labels fewer kept = record {
  sector_size = kept.sector_size;
  sectors = kept.sectors;
  max_transfer = kept.max_transfer;
  depth = kept.depth;
  pieces = kept.pieces;
  accepted = kept.accepted;
  failures = kept.failures;
  medium_failures = kept.medium_failures;
  labels = omega (arith, kept.labels);
}
