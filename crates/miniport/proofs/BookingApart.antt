-- What is booked of a piece, as an adapter whose sectors stand elsewhere shows it.
use Rattle.std.proofs.Common.{◌≡◌, ◌≢◌, ◌<◌, ◌≤◌, inl, inr, ℕ, zero, suc, ◌+◌, ◌==◌, Bool, true, false, List, [], ◌∷◌, length, map, slice_set, sum_by, Option, Some, None, Result, Ok, Err, MatchBool, refl, sym, ap, subst, ◌∙◌, arith, length-set, set-set, zero-add}
use Rattle.std.proofs.lemmas.Bool.Decides.{Decides-eqb, eqb_tells}
use Rattle.std.proofs.lemmas.List.{nil_from_length}
use Rattle.cdb.specs.declared.Cdb.{Cdb}
use Rattle.cdb.specs.declared.Cdb.TheVariants.{Read10, Write10, Sync10, ReadCapacity10, Read16, Write16, Sync16, ReadCapacity16}
use Rattle.srb.specs.declared.Srb.{Srb}
use Rattle.srb.specs.declared.Entry.{Entry}
use Rattle.srb.specs.declared.Kind.{Kind}
use Rattle.srb.specs.declared.Kind.TheVariants.{Read, Write}
use Rattle.srb.specs.declared.Booked.{Booked}
use Rattle.srb.specs.declared.Booked.TheVariants.{Copied, Taken, Sent, Failed}
use Rattle.srb.specs.declared.Completion.{Completion}
use Rattle.srb.specs.declared.Class.TheVariants.{Bad}
use Rattle.srb.specs.Fate.{Fate, class_of}
use Rattle.adapter.specs.View.{TagInUse, IsInOrder}
use Rattle.adapter.specs.Booking.{Books, IsBookable, IsFlushOf, IsTransferOf, MayBeOf, Suits, handed, handed_of, with_booked, booked_on}
use Rattle.adapter.proofs.Handed.{handed_on}
use Rattle.adapter.proofs.Booked.{on_tag_once, is_there, suits_long}
use Rattle.disk.specs.Medium.{MediumView, HasWholeSectors}
use Rattle.miniport.specs.declared.check.Sizes.{Sizes}
use Rattle.miniport.specs.declared.on_tag.OnTag.{OnTag}
use Rattle.miniport.specs.declared.on_tag.Progress.{Progress}
use Rattle.miniport.specs.declared.on_tag.Progress.TheVariants.{Untouched}
use Rattle.miniport.specs.Apart.{apart}
use Rattle.miniport.specs.inside.Apart.{SuitsPiece, CanBook, CannotBook, BooksIn}
use Rattle.miniport.specs.Carrying.{with_data}
use Rattle.miniport.specs.inside.Slots.{Table, Fits, MayBecome, piece_at, in_use_of, tags_of, fate_of, booked_piece, booked_with, with_slot}
use Rattle.miniport.specs.Memory.{MemView, shown_of, view_of}
use Rattle.miniport.specs.inside.Memory.{AdapterKept, IsPieceRight, failures_left}
use Rattle.miniport.proofs.TagsInUse.{taken_first, tags_differ}
use Rattle.miniport.proofs.Pieces.{pieces_set, left_after_set}
use Rattle.miniport.proofs.Keeping.{in_order}
use Rattle.miniport.proofs.Acts.{is_below, none_fresh}

-- THE TAGS

other_number : (a b : ℕ) → a ≢ b → (a == b) ≡ false
other_number a b differ = elim (eqb_tells a b) [ inl h ↦ absurd (differ h.1) | inr h ↦ h.0 ]

left_alone : (n : ℕ) (what : Result Entry Completion) (u : TagInUse) → u.tag ≢ n → booked_on n what u ≡ u
left_alone n what u differ = rw (other_number u.tag n differ) refl

beyond : (size k n : ℕ) (what : Result Entry Completion) (slots : List (Option OnTag)) → n < k → map (booked_on n what) (tags_of size k slots) ≡ tags_of size k slots
beyond size k n what [] below = refl
beyond size k n what (None ∷ slots) below = beyond size (suc k) n what slots (omega (arith, below))
beyond size k n what (Some on ∷ slots) below = rw (left_alone n what (in_use_of size k on) (λ e. absurd (omega (arith, below, e))), beyond size (suc k) n what slots (omega (arith, below))) refl

use_booked : (size n : ℕ) (what : Result Entry Completion) (on : OnTag) → on.progress ≡ Untouched → in_use_of size n (booked_piece what on) ≡ with_booked what (in_use_of size n on)
use_booked size n (Ok entry) on untouched =
    let same : fate_of size (with_data entry.bytes on.srb) on.progress ≡ fate_of size on.srb on.progress =
    ap (λ (p : Progress). fate_of size (with_data entry.bytes on.srb) p) untouched ∙ sym (ap (λ (p : Progress). fate_of size on.srb p) untouched) in
    ap (λ (f : Fate). record (with_booked (Ok entry) (in_use_of size n on)) { fate = f }) same
use_booked size n (Err completion) on untouched = refl

here : (n : ℕ) (what : Result Entry Completion) (u : TagInUse) → u.tag ≡ n → booked_on n what u ≡ with_booked what u
here n what u e = rw ((Decides-eqb u.tag n).1 e) refl

tags_booked : (size k i : ℕ) (what : Result Entry Completion) (slots : List (Option OnTag)) (on : OnTag) → piece_at slots i ≡ Some on → on.progress ≡ Untouched
    → tags_of size k (slice_set slots i (Some (booked_piece what on))) ≡ map (booked_on (k + i) what) (tags_of size k slots)
tags_booked size k zero what [] on there untouched = absurd cc
tags_booked size k (suc i) what [] on there untouched = absurd cc
tags_booked size k zero what (None ∷ slots) on there untouched = absurd cc
tags_booked size k zero what (Some p ∷ slots) on there untouched =
    let same : p ≡ on = cc in
    let n : k ≡ k + zero = omega arith in
    let first : in_use_of size k (booked_piece what on) ≡ booked_on (k + zero) what (in_use_of size k p) =
    use_booked size k what on untouched ∙ ap (λ (q : OnTag). with_booked what (in_use_of size k q)) (sym same) ∙ sym (here (k + zero) what (in_use_of size k p) n) in
    let rest : tags_of size (suc k) slots ≡ map (booked_on (k + zero) what) (tags_of size (suc k) slots) = sym (beyond size (suc k) (k + zero) what slots (omega arith)) in
    cc
tags_booked size k (suc i) what (None ∷ slots) on there untouched =
    let n : suc k + i ≡ k + suc i = omega arith in
    subst (λ (x : ℕ). tags_of size (suc k) (slice_set slots i (Some (booked_piece what on))) ≡ map (booked_on x what) (tags_of size (suc k) slots)) n (tags_booked size (suc k) i what slots on there untouched)
tags_booked size k (suc i) what (Some p ∷ slots) on there untouched =
    let n : suc k + i ≡ k + suc i = omega arith in
    let first : in_use_of size k p ≡ booked_on (k + suc i) what (in_use_of size k p) = sym (left_alone (k + suc i) what (in_use_of size k p) (λ e. absurd (omega (arith, e)))) in
    let rest : tags_of size (suc k) (slice_set slots i (Some (booked_piece what on))) ≡ map (booked_on (k + suc i) what) (tags_of size (suc k) slots) =
    subst (λ (x : ℕ). tags_of size (suc k) (slice_set slots i (Some (booked_piece what on))) ≡ map (booked_on x what) (tags_of size (suc k) slots)) n (tags_booked size (suc k) i what slots on there untouched) in
    cc

-- WHAT IS KEPT

transfer_again : (size sectors : ℕ) (bytes : List ℕ) (kind : Kind) (lba count : ℕ) (entry : Entry) → IsTransferOf size sectors bytes kind lba count entry
    → IsTransferOf size sectors entry.bytes kind lba count entry
transfer_again size sectors bytes kind lba count entry h =
    record { kind_is = h.kind_is; first_is = h.first_is; count_is = h.count_is; inside = h.inside; whole = h.as_many ∙ h.whole; as_many = refl }

flush_again : (bytes : List ℕ) (lba count : ℕ) (entry : Entry) → IsFlushOf bytes lba count entry → IsFlushOf entry.bytes lba count entry
flush_again bytes lba count entry h =
    record { kind_is = h.kind_is; first_is = h.first_is; count_is = h.count_is; none = h.none_booked; none_booked = h.none_booked }

-- what may be booked may be booked again, where its bytes are the data
may_again : (size sectors : ℕ) (bytes : List ℕ) (entry : Entry) (command : Cdb) → MayBeOf size sectors bytes entry command → MayBeOf size sectors entry.bytes entry command
may_again size sectors bytes entry (Read10 lba count fua) h = transfer_again size sectors bytes Read lba count entry h
may_again size sectors bytes entry (Write10 lba count fua) h = (transfer_again size sectors bytes Write lba count entry h.0, refl)
may_again size sectors bytes entry (Sync10 lba count) h = flush_again bytes lba count entry h
may_again size sectors bytes entry ReadCapacity10 h = absurd h
may_again size sectors bytes entry (Read16 lba count fua) h = transfer_again size sectors bytes Read lba count entry h
may_again size sectors bytes entry (Write16 lba count fua) h = (transfer_again size sectors bytes Write lba count entry h.0, refl)
may_again size sectors bytes entry (Sync16 lba count) h = flush_again bytes lba count entry h
may_again size sectors bytes entry (ReadCapacity16 allocation) h = absurd h

booked_right : {w : Bool} (m : MediumView) (f piece : ℕ) (on : OnTag) (what : Result Entry Completion) → SuitsPiece m.sector_size (length m.sectors) on piece what → on.progress ≡ Untouched → IsPieceRight w m f on → IsPieceRight w m f (booked_piece what on)
booked_right m f piece on (Ok entry) s untouched right = record {
  ready = right.ready;
  buffers = λ e b. subst (λ (n : ℕ). n ≤ on.srb.for_label) (sym (suits_long m.sector_size (length m.sectors) on.srb entry s.suits)) (right.buffers untouched b);
  moved = λ e. absurd (cc (untouched, e));
  counted = right.counted;
  failed = right.failed;
  met = right.met;
  booked = λ e b. (λ z. s.not_first (sym s.is_piece ∙ z), (entry, record { command = s.suits.command; means = s.suits.means; may = may_again m.sector_size (length m.sectors) on.srb.data entry s.suits.command s.suits.may }, refl));
  failing = λ c e. absurd (cc (e));
}
booked_right m f piece on (Err completion) s untouched right = record {
  ready = right.ready;
  buffers = right.buffers;
  moved = right.moved;
  counted = right.counted;
  failed = right.failed;
  met = right.met;
  booked = λ e b. absurd (cc (b));
  failing = λ c e. let same : completion ≡ c = cc in subst (λ (d : Completion). class_of d ≡ Bad d) same s.suits;
}

same_left : (what : Result Entry Completion) (on : OnTag) → failures_left (Some (booked_piece what on)) ≡ failures_left (Some on)
same_left (Ok entry) on = refl
same_left (Err completion) on = refl

kept_booked : (m : MediumView) (longest : ℕ) (t : Table) (tag piece : ℕ) (on : OnTag) (what : Result Entry Completion) → AdapterKept m longest t → piece_at t.slots tag ≡ Some on → on.progress ≡ Untouched
    → SuitsPiece m.sector_size (length m.sectors) on piece what → AdapterKept m longest (with_slot tag (Some (booked_piece what on)) t)
kept_booked m longest t tag piece on what kept there untouched suits =
    let after : OnTag = booked_piece what on in
    let was : failures_left (piece_at t.slots tag) ≡ failures_left (Some on) = ap failures_left there in
    let left : sum_by failures_left (slice_set t.slots tag (Some after)) + failures_left (piece_at t.slots tag) ≡ sum_by failures_left t.slots + failures_left (Some after) =
    left_after_set t.slots tag (Some after) (is_below t.slots tag on there) in
    let same : failures_left (Some after) ≡ failures_left (Some on) = same_left what on in
    record {
      sector_size = kept.sector_size;
      sectors = kept.sectors;
      max_transfer = kept.max_transfer;
      depth = rw (length-set t.slots tag (Some after)) kept.depth;
      pieces = pieces_set t.keeps_bytes m t.failures t.slots tag after kept.pieces (booked_right m t.failures piece on what suits untouched (kept.pieces tag on there));
      accepted = kept.accepted;
      failures = omega (arith, left, was, same, kept.failures);
      medium_failures = kept.medium_failures;
      labels = kept.labels;
    }

-- WHAT IS SHOWN

bookable : (m : MediumView) (longest : ℕ) (t : Table) (tag piece : ℕ) (what : Result Entry Completion) (on : OnTag) → piece_at t.slots tag ≡ Some on → on.progress ≡ Untouched
    → SuitsPiece m.sector_size (length m.sectors) on piece what → IsBookable (apart (shown_of m longest t)) tag piece what
bookable m longest t tag piece what on there untouched suits = record {
  use' = in_use_of m.sector_size tag on;
  others = tags_of m.sector_size 0 (slice_set t.slots tag None);
  apart = refl;
  is_on = record { in_use = taken_first m.sector_size t.slots tag on there; has_tag = refl };
  is_piece = suits.is_piece;
  is_fresh = ap (λ (p : Progress). fate_of m.sector_size on.srb p) untouched;
  not_first = suits.not_first;
  suits = suits.suits;
}

shown_booked : (m : MediumView) (longest : ℕ) (t : Table) (tag : ℕ) (what : Result Entry Completion) (on : OnTag) → piece_at t.slots tag ≡ Some on → on.progress ≡ Untouched
    → apart (shown_of m longest (with_slot tag (Some (booked_piece what on)) t)) ≡ record (apart (shown_of m longest t)) { tags = map (booked_on tag what) (tags_of m.sector_size 0 t.slots) }
shown_booked m longest t tag what on there untouched =
    let after = Some (booked_piece what on) in
    let tags : tags_of m.sector_size 0 (slice_set t.slots tag after) ≡ map (booked_on tag what) (tags_of m.sector_size 0 t.slots) =
    subst (λ (n : ℕ). tags_of m.sector_size 0 (slice_set t.slots tag after) ≡ map (booked_on n what) (tags_of m.sector_size 0 t.slots)) (zero-add tag) (tags_booked m.sector_size 0 tag what t.slots on there untouched) in
    ap (λ (n : ℕ). record (apart (shown_of m longest (with_slot tag after t))) { depth = n }) (length-set t.slots tag after)
    ∙ ap (λ (us : List TagInUse). record (apart (shown_of m longest t)) { tags = us }) tags

-- WHAT IS HANDED OVER

becomes : (size sectors : ℕ) (bytes : List ℕ) (entry : Entry) (command : Cdb) → MayBeOf size sectors bytes entry command → MayBecome entry bytes
becomes size sectors bytes entry (Read10 lba count fua) h = record { as_many = h.as_many; same = λ other. absurd (other h.kind_is) }
becomes size sectors bytes entry (Write10 lba count fua) h = record { as_many = h.0.as_many; same = λ other. h.1 }
becomes size sectors bytes entry (Sync10 lba count) h =
    record { as_many = h.none_booked ∙ sym h.none; same = λ other. nil_from_length entry.bytes h.none_booked ∙ sym (nil_from_length bytes h.none) }
becomes size sectors bytes entry ReadCapacity10 h = absurd h
becomes size sectors bytes entry (Read16 lba count fua) h = record { as_many = h.as_many; same = λ other. absurd (other h.kind_is) }
becomes size sectors bytes entry (Write16 lba count fua) h = record { as_many = h.0.as_many; same = λ other. h.1 }
becomes size sectors bytes entry (Sync16 lba count) h =
    record { as_many = h.none_booked ∙ sym h.none; same = λ other. nil_from_length entry.bytes h.none_booked ∙ sym (nil_from_length bytes h.none) }
becomes size sectors bytes entry (ReadCapacity16 allocation) h = absurd h

suited_fits : (size sectors tag piece : ℕ) (srb : Srb) (what : Booked) → Suits size sectors srb (handed_of tag piece srb what) → Fits what srb.data
suited_fits size sectors tag piece srb (Copied entry) s = becomes size sectors srb.data entry.now s.command s.may
suited_fits size sectors tag piece srb (Taken entry) s = becomes size sectors srb.data entry.now s.command s.may
suited_fits size sectors tag piece srb Sent s = tt
suited_fits size sectors tag piece srb (Failed completion) s = tt

same_piece : (a b : OnTag) (slots : List (Option OnTag)) (tag : ℕ) → piece_at slots tag ≡ Some a → piece_at slots tag ≡ Some b → a ≡ b
same_piece a b slots tag e f = cc (e, f)

pub can_fit : (sizes : Sizes) (t : Table) (tag piece : ℕ) (what : Booked) → CanBook sizes t tag piece what → (on : OnTag) → piece_at t.slots tag ≡ Some on → Fits what on.srb.data
can_fit sizes t tag piece what can on there =
    subst (λ (x : OnTag). Fits what x.srb.data) (same_piece can.on on t.slots tag can.there there)
    (suited_fits sizes.sector_size sizes.sectors tag piece can.on.srb what can.suits.suits)

-- the piece is booked by what was handed over
as_handed : (tag piece : ℕ) (what : Booked) (on : OnTag) → booked_with what on ≡ booked_piece (handed_of tag piece on.srb what) on
as_handed tag piece (Copied entry) on = refl
as_handed tag piece (Taken entry) on = refl
as_handed tag piece Sent on = refl
as_handed tag piece (Failed completion) on = refl

handed_there : (m : MediumView) (longest : ℕ) (t : Table) (tag piece : ℕ) (what : Booked) (on : OnTag) → piece_at t.slots tag ≡ Some on
    → handed (apart (shown_of m longest t)) tag piece what ≡ handed_of tag piece on.srb what
handed_there m longest t tag piece what on there =
    handed_on (apart (shown_of m longest t)) tag piece what (in_use_of m.sector_size tag on) (tags_of m.sector_size 0 (slice_set t.slots tag None)) (tags_differ m.sector_size t.slots)
    (record { in_use = taken_first m.sector_size t.slots tag on there; has_tag = refl })

-- ALL OF IT

pub record AfterBook (v : MemView) (tag piece : ℕ) (what : Result Entry Completion) (m : MediumView) (longest : ℕ) (t : Table) : Type 0 where
  pub kept : AdapterKept m longest t
  pub order : IsInOrder (shown_of m longest t)
  pub books : Books (apart v.shown) tag piece what (apart (shown_of m longest t))

-- the piece on the tag is the one that was found there
the_piece : (m : MediumView) (longest : ℕ) (t : Table) (tag piece : ℕ) (what : Result Entry Completion) → IsBookable (apart (shown_of m longest t)) tag piece what
    → (on : OnTag) → piece_at t.slots tag ≡ Some on → SuitsPiece m.sector_size (length m.sectors) on piece what
the_piece m longest t tag piece what h on there =
    let same : h.use' ≡ in_use_of m.sector_size tag on = on_tag_once (tags_of m.sector_size 0 t.slots) (tags_differ m.sector_size t.slots) h.use' (in_use_of m.sector_size tag on)
    (is_there (apart (shown_of m longest t)) tag h.use' h.others h.is_on)
    (is_there (apart (shown_of m longest t)) tag (in_use_of m.sector_size tag on) (tags_of m.sector_size 0 (slice_set t.slots tag None)) (record { in_use = taken_first m.sector_size t.slots tag on there; has_tag = refl }))
    h.is_on.has_tag in
    record {
      not_first = h.not_first;
      is_piece = sym (ap (λ (u : TagInUse). u.piece) same) ∙ h.is_piece;
      suits = subst (λ (u : TagInUse). Suits m.sector_size (length m.sectors) u.srb what) same h.suits;
    }

none_bookable : (m : MediumView) (longest : ℕ) (t : Table) (tag piece : ℕ) (what : Result Entry Completion)
    → ((on : OnTag) → piece_at t.slots tag ≡ Some on → on.progress ≡ Untouched → ¬ SuitsPiece m.sector_size (length m.sectors) on piece what) → ¬ IsBookable (apart (shown_of m longest t)) tag piece what
none_bookable m longest t tag piece what none h =
    none_fresh m longest t tag (λ on there untouched. none on there untouched (the_piece m longest t tag piece what h on there)) h.use' h.others (record { in_use = h.is_on.in_use; has_tag = h.is_on.has_tag }) h.is_fresh

booked_so : (m : MediumView) (longest : ℕ) (p : Bool) (t t' : Table) (sizes : Sizes) (tag piece : ℕ) (what : Booked) (b : Bool) → HasWholeSectors m → AdapterKept m longest t
    → sizes.sector_size ≡ m.sector_size → sizes.sectors ≡ length m.sectors → MatchBool b (BooksIn sizes t tag piece what t') (CannotBook sizes t tag piece what × (t' ≡ t))
    → AfterBook (view_of m longest p t) tag piece (handed (apart (shown_of m longest t)) tag piece what) m longest t'
booked_so m longest p t t' sizes tag piece what true whole kept size count h =
    let on : OnTag = h.can.on in
    let told : Result Entry Completion = handed_of tag piece on.srb what in
    let suits : SuitsPiece m.sector_size (length m.sectors) on piece told =
    subst (λ (n : ℕ). SuitsPiece n (length m.sectors) on piece told) size (subst (λ (n : ℕ). SuitsPiece sizes.sector_size n on piece told) count h.can.suits) in
    let after : t' ≡ with_slot tag (Some (booked_piece told on)) t =
    h.after ∙ ap (λ (x : OnTag). with_slot tag (Some x) (with_slot tag None t)) (as_handed tag piece what on)
    ∙ ap (λ (l : List (Option OnTag)). record t { slots = l }) (set-set t.slots tag None (Some (booked_piece told on))) in
    let keeps : AdapterKept m longest (with_slot tag (Some (booked_piece told on)) t) = kept_booked m longest t tag piece on told kept h.can.there h.can.untouched suits in
    subst (λ (r : Result Entry Completion). AfterBook (view_of m longest p t) tag piece r m longest t') (sym (handed_there m longest t tag piece what on h.can.there))
    (subst (λ (s : Table). AfterBook (view_of m longest p t) tag piece told m longest s) (sym after) (record {
      kept = keeps;
      order = in_order m longest (with_slot tag (Some (booked_piece told on)) t) whole keeps;
      books = record {
        booked = true;
        decides = (λ e. bookable m longest t tag piece told on h.can.there h.can.untouched suits, λ h. refl);
        after = shown_booked m longest t tag told on h.can.there h.can.untouched;
      };
    }))
booked_so m longest p t t' sizes tag piece what false whole kept size count (none, same) =
    let told : Result Entry Completion = handed (apart (shown_of m longest t)) tag piece what in
    let none' : (on : OnTag) → piece_at t.slots tag ≡ Some on → on.progress ≡ Untouched → ¬ SuitsPiece m.sector_size (length m.sectors) on piece told =
    λ on there untouched suits. none on there untouched (subst (λ (r : Result Entry Completion). SuitsPiece sizes.sector_size sizes.sectors on piece r) (handed_there m longest t tag piece what on there)
    (subst (λ (n : ℕ). SuitsPiece n sizes.sectors on piece told) (sym size) (subst (λ (n : ℕ). SuitsPiece m.sector_size n on piece told) (sym count) suits))) in
    subst (λ (s : Table). AfterBook (view_of m longest p t) tag piece told m longest s) (sym same) (record {
      kept = kept;
      order = in_order m longest t whole kept;
      books = record {
        booked = false;
        decides = (λ e. absurd (cc (e)), λ h. absurd (none_bookable m longest t tag piece told none' h));
        after = refl;
      };
    })

pub after_book : (m : MediumView) (longest : ℕ) (p : Bool) (t t' : Table) (sizes : Sizes) (v : MemView) (tag piece : ℕ) (what : Booked) (b : Bool) → view_of m longest p t ≡ v → HasWholeSectors m → AdapterKept m longest t
    → sizes.sector_size ≡ m.sector_size → sizes.sectors ≡ length m.sectors → MatchBool b (BooksIn sizes t tag piece what t') (CannotBook sizes t tag piece what × (t' ≡ t))
    → AfterBook v tag piece (handed (apart v.shown) tag piece what) m longest t'
after_book m longest p t t' sizes v tag piece what b e whole kept size count h =
    subst (λ (u : MemView). AfterBook u tag piece (handed (apart u.shown) tag piece what) m longest t') e (booked_so m longest p t t' sizes tag piece what b whole kept size count h)
