-- What is right of each piece on a tag stays right.
use Rattle.std.proofs.Common.{◌≡◌, ◌<◌, ◌≤◌, ◌⊎◌, inl, inr, ℕ, zero, suc, ◌+◌, Bool, true, false, List, [], ◌∷◌, length, map, slice_set, sum_by, Option, Some, None, refl, sym, ap, ◌∙◌, subst, arith, if◌then◌else◌}
use Rattle.std.proofs.lemmas.List.{get_or-set_same, get_or-set_other, get_or-map, get_or_past, set_past, length-map}
use Rattle.std.proofs.lemmas.List.Sums.{sum_by-set, sum_by-cons, get_or-le-sum_by}
use Rattle.std.proofs.lemmas.Bool.Decides.{eqb_tells}
use Rattle.std.proofs.lemmas.Bool.{cases_lt}
use Rattle.srb.specs.declared.Srb.{Srb}
use Rattle.srb.specs.declared.Completion.{Completion}
use Rattle.srb.specs.declared.Class.TheVariants.{Bad}
use Rattle.srb.specs.Fate.{class_of}
use Rattle.disk.specs.Medium.{MediumView}
use Rattle.miniport.specs.declared.on_tag.OnTag.{OnTag}
use Rattle.miniport.specs.declared.on_tag.Progress.{Progress}
use Rattle.miniport.specs.declared.on_tag.Progress.TheVariants.{Untouched, Moved, Failed}
use Rattle.miniport.specs.Faults.{bus_reset}
use Rattle.miniport.specs.Carrying.{IsReady}
use Rattle.miniport.specs.inside.Slots.{piece_at, slot_after_reset, progress_after_reset, failures_of_reset}
use Rattle.miniport.specs.inside.Memory.{IsPieceRight, ArePiecesRight, failures_left, left_by}

-- a slot that is set to something right
pub pieces_set : (w : Bool) (m : MediumView) (f : ℕ) (slots : List (Option OnTag)) (i : ℕ) (on : OnTag) → ArePiecesRight w m f slots → IsPieceRight w m f on
    → ArePiecesRight w m f (slice_set slots i (Some on))
pieces_set w m f slots i on all right j p e =
    elim (eqb_tells j i) [
      | inl same ↦ elim (cases_lt i (length slots)) [
        | inr past ↦ all j p (sym (ap (λ (l : List (Option OnTag)). piece_at l j) (set_past slots i (Some on) past)) ∙ e)
        | inl below ↦
            let here : piece_at (slice_set slots i (Some on)) j ≡ Some on = ap (λ (k : ℕ). piece_at (slice_set slots i (Some on)) k) same.1 ∙ get_or-set_same slots i (Some on) None below in
            let k : on ≡ p = cc in
            subst (λ (x : OnTag). IsPieceRight w m f x) k right
      ]
      | inr differ ↦ all j p (sym (get_or-set_other slots i j (Some on) None differ.1) ∙ e)
    ]

-- a slot that is emptied
pub pieces_emptied : {w : Bool} (m : MediumView) (f : ℕ) (slots : List (Option OnTag)) (i : ℕ) → ArePiecesRight w m f slots → ArePiecesRight w m f (slice_set slots i None)
pieces_emptied m f slots i all j p e =
    elim (eqb_tells j i) [
      | inl same ↦ elim (cases_lt i (length slots)) [
        | inr past ↦ all j p (sym (ap (λ (l : List (Option OnTag)). piece_at l j) (set_past slots i None past)) ∙ e)
        | inl below ↦
            let here : piece_at (slice_set slots i None) j ≡ None = ap (λ (k : ℕ). piece_at (slice_set slots i None) k) same.1 ∙ get_or-set_same slots i None None below in
            absurd cc
      ]
      | inr differ ↦ all j p (sym (get_or-set_other slots i j None None differ.1) ∙ e)
    ]

pub emptied_at : (slots : List (Option OnTag)) (i : ℕ) → piece_at (slice_set slots i None) i ≡ None
emptied_at slots i = elim (cases_lt i (length slots)) [
  | inl below ↦ get_or-set_same slots i None None below
  | inr past ↦ ap (λ (l : List (Option OnTag)). piece_at l i) (set_past slots i None past) ∙ get_or_past slots i None past
]

-- of another medium, or with more failures
pub pieces_along : {w : Bool} (m m' : MediumView) (f f' : ℕ) (slots : List (Option OnTag)) → ((on : OnTag) → IsPieceRight w m f on → IsPieceRight w m' f' on)
    → ArePiecesRight w m f slots → ArePiecesRight w m' f' slots
pieces_along m m' f f' slots along all i on e = along on (all i on e)

pub more_failures : {w : Bool} (m : MediumView) (f f' : ℕ) → f ≤ f' → (on : OnTag) → IsPieceRight w m f on → IsPieceRight w m f' on
more_failures m f f' more on right = record {
  ready = right.ready;
  buffers = right.buffers;
  moved = right.moved;
  counted = omega (arith, right.counted);
  failed = λ c e. ((right.failed c e).0, omega (arith, (right.failed c e).1));
  met = λ e. (omega (arith, (right.met e).0), (right.met e).1);
  booked = right.booked;
  failing = right.failing;
}

-- a medium of the same size on which the same is reserved
pub other_medium : {w : Bool} (m m' : MediumView) (f : ℕ) → m'.sector_size ≡ m.sector_size → length m'.sectors ≡ length m.sectors → ((srb : Srb) → IsReady m srb → IsReady m' srb)
    → (on : OnTag) → IsPieceRight w m f on → IsPieceRight w m' f on
other_medium m m' f size long ready on right = record {
  ready = ready on.srb right.ready;
  buffers = right.buffers;
  moved = λ e. rw size (right.moved e);
  counted = right.counted;
  failed = right.failed;
  met = right.met;
  booked = λ e b. rw (size, long) (right.booked e b);
  failing = right.failing;
}

-- after a reset
progress_met : (p : Progress) → progress_after_reset p ≡ Untouched → ⊥
progress_met Untouched e = absurd cc
progress_met Moved e = absurd cc
progress_met (Failed c) e = absurd cc

was_moved : (p : Progress) → progress_after_reset p ≡ Moved → p ≡ Moved
was_moved Untouched e = absurd cc
was_moved Moved e = refl
was_moved (Failed c) e = absurd cc

failed_so : (p : Progress) (c : Completion) → progress_after_reset p ≡ Failed c → (p ≡ Failed c) ⊎ (c ≡ bus_reset)
failed_so Untouched c e = inr cc
failed_so Moved c e = absurd cc
failed_so (Failed d) c e = inl e

is_reset_class : class_of bus_reset ≡ Bad bus_reset
is_reset_class = refl

reset_piece_right : {w : Bool} (m : MediumView) (f f' : ℕ) (on : OnTag) → f ≤ f' → (f < f') ⊎ (on.was_reset ≡ true) → IsPieceRight w m f on
    → IsPieceRight w m f' (record on { progress = progress_after_reset on.progress; was_reset = true })
reset_piece_right m f f' on more rose right =
    let before : on.failures_before < f' = elim rose [ inl up ↦ omega (arith, right.counted) | inr was ↦ omega (arith, (right.met was).0) ] in
    record {
      ready = right.ready;
      buffers = λ e. absurd (progress_met on.progress e);
      moved = λ e. right.moved (was_moved on.progress e);
      counted = omega (arith, right.counted);
      failed = λ c e. (elim (failed_so on.progress c e) [ inl was ↦ (right.failed c was).0 | inr is ↦ rw is is_reset_class ], before);
      met = λ e. (before, progress_met on.progress);
      booked = λ e b. absurd (progress_met on.progress e);
      failing = right.failing;
    }

-- a slot that becomes a piece in a reset was one before
met_piece : (slot : Option OnTag) (after : OnTag) → slot_after_reset slot ≡ Some after
    → (on : OnTag) × (slot ≡ Some on) × (after ≡ record on { progress = progress_after_reset on.progress; was_reset = true })
met_piece None after e = absurd cc
met_piece (Some on) after e = (on, refl, cc)

not_counted : (b : Bool) → (if b then 0 else 1) ≤ 0 → b ≡ true
not_counted true e = refl
not_counted false e = absurd (omega (arith, e))

rose_or_met : (f count : ℕ) (on : OnTag) → failures_of_reset (Some on) ≤ count → (f < f + count) ⊎ (on.was_reset ≡ true)
rose_or_met f zero on few = inr (not_counted on.was_reset (omega arith))
rose_or_met f (suc n) on few = inl (omega arith)

pub pieces_reset : {w : Bool} (m : MediumView) (f : ℕ) (slots : List (Option OnTag)) → ArePiecesRight w m f slots
    → ArePiecesRight w m (f + sum_by failures_of_reset slots) (map slot_after_reset slots)
pieces_reset m f slots all i after e =
    elim (cases_lt i (length slots)) [
      | inr past ↦
          let none : piece_at (map slot_after_reset slots) i ≡ None = get_or_past (map slot_after_reset slots) i None (omega (arith, length-map slots slot_after_reset)) in
          absurd cc
      | inl below ↦
          let at : piece_at (map slot_after_reset slots) i ≡ slot_after_reset (piece_at slots i) = get_or-map slot_after_reset slots i None None below in
          let was = met_piece (piece_at slots i) after (sym at ∙ e) in
          let few : failures_of_reset (Some was.0) ≤ sum_by failures_of_reset slots =
          subst (λ (slot : Option OnTag). failures_of_reset slot ≤ sum_by failures_of_reset slots) was.1 (get_or-le-sum_by failures_of_reset slots i None below) in
          rw was.2 (reset_piece_right m f (f + sum_by failures_of_reset slots) was.0 (omega arith) (rose_or_met f _ was.0 few) (all i was.0 was.1))
    ]

-- FAILURES

-- a slot that is set leaves the others' failures
pub left_after_set : (slots : List (Option OnTag)) (i : ℕ) (slot : Option OnTag) → i < length slots
    → sum_by failures_left (slice_set slots i slot) + failures_left (piece_at slots i) ≡ sum_by failures_left slots + failures_left slot
left_after_set slots i slot below = sum_by-set failures_left slots i slot None below

zero_or_one : (b : Bool) (p : Progress) → (if b then 0 else 1) + (if true then 0 else left_by (progress_after_reset p)) ≤ (if b then 0 else left_by p)
zero_or_one true p = omega arith
zero_or_one false Untouched = omega arith
zero_or_one false Moved = omega arith
zero_or_one false (Failed c) = omega arith

left_of_slot : (slot : Option OnTag) → failures_of_reset slot + failures_left (slot_after_reset slot) ≤ failures_left slot
left_of_slot None = omega arith
left_of_slot (Some on) = zero_or_one on.was_reset on.progress

-- a reset counts no more than what was left
pub left_after_reset : (slots : List (Option OnTag)) → sum_by failures_of_reset slots + sum_by failures_left (map slot_after_reset slots) ≤ sum_by failures_left slots
left_after_reset [] = omega arith
left_after_reset (slot ∷ slots) = omega (
  arith,
  sum_by-cons failures_of_reset slot slots,
  sum_by-cons failures_left slot slots,
  sum_by-cons failures_left (slot_after_reset slot) (map slot_after_reset slots),
  left_of_slot slot,
  left_after_reset slots,
)
