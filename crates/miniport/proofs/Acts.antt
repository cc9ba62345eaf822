-- An act on the parts of the adapter in memory is an act of the adapter.
use Rattle.std.proofs.Common.{◌≡◌, ◌≢◌, ◌<◌, inl, inr, ℕ, suc, ◌+◌, Bool, List, [], ◌∷◌, length, All, Option, Some, None, refl, sym, ap, ◌∙◌, subst, arith, add-zero, zero-add, set-set}
use Rattle.std.specs.Prelude.{Contains}
use Rattle.std.specs.List.{concat}
use Rattle.std.proofs.lemmas.List.{get_or_past}
use Rattle.std.proofs.lemmas.List.Elements.{All-nil, All-cons, All-weaker, All-contains}
use Rattle.std.proofs.lemmas.List.Sorted.{IsPermutation-sym, Contains-permutation}
use Rattle.std.proofs.lemmas.Bool.{cases_lt}
use Rattle.srb.specs.declared.Srb.{Srb}
use Rattle.srb.specs.declared.Completion.{Completion}
use Rattle.srb.specs.Fate.{Fresh}
use Rattle.adapter.specs.View.{TagInUse, IsOn}
use Rattle.disk.specs.Medium.{MediumView}
use Rattle.miniport.specs.declared.on_tag.OnTag.{OnTag}
use Rattle.miniport.specs.declared.on_tag.Progress.{Progress}
use Rattle.miniport.specs.declared.on_tag.Progress.TheVariants.{Untouched, Moved as Done, Failed as Refused}
use Rattle.miniport.specs.declared.carrying.Outcome.{Outcome}
use Rattle.miniport.specs.declared.carrying.Outcome.TheVariants.{Moved, Failed}
use Rattle.adapter.specs.Calls.{ActsOrFaults, ActsNot}
use Rattle.miniport.specs.Carrying.{disk_of, with_data}
use Rattle.miniport.specs.Moving.{moved_by}
use Rattle.miniport.specs.inside.Slots.{Table, HasNoneUntouched, piece_at, in_use_of, fate_of, tags_of, with_slot, with_moved, with_failed}
use Rattle.miniport.specs.Memory.{shown_of, view_of, ActsByTable}
use Rattle.miniport.specs.inside.Memory.{AdapterKept, PutsBack, ActsIn, ActsNotIn}
use Rattle.miniport.proofs.Bad.{fault_is_bad}
use Rattle.miniport.proofs.Keeping.{moved_piece, failed_piece, move_kept, fail_kept}
use Rattle.adapter.proofs.Performing.{Performs-length}
use Rattle.miniport.proofs.Showing.{not_booked, acts, faults, acts_by_table, faults_by_table}

-- a tag with a piece is one of the slots
pub is_below : (slots : List (Option OnTag)) (tag : ℕ) (on : OnTag) → piece_at slots tag ≡ Some on → tag < length slots
is_below slots tag on there =
    elim (cases_lt tag (length slots)) [
      | inl below ↦ below
      | inr past ↦ let none : piece_at slots tag ≡ None = get_or_past slots tag None past in absurd cc
    ]

-- the table after an act, in one set of the slot
pub table_moved : (t t' : Table) (tag : ℕ) (on : OnTag) (srb : Srb) (bytes : List ℕ) → srb ≡ with_data bytes on.srb
    → t' ≡ with_moved tag (record on { srb = srb; progress = Done }) (with_slot tag None t) → t' ≡ with_moved tag (moved_piece on bytes) t
table_moved t t' tag on srb bytes back e =
    e ∙ ap (λ (s : Srb). with_moved tag (record on { srb = s; progress = Done }) (with_slot tag None t)) back
    ∙ ap (λ (l : List (Option OnTag)). record (with_moved tag (moved_piece on bytes) t) { slots = l }) (set-set t.slots tag None (Some (moved_piece on bytes)))

pub table_failed : (t t' : Table) (tag : ℕ) (on : OnTag) (srb : Srb) (completion : Completion) → srb ≡ on.srb
    → t' ≡ with_failed tag (record on { srb = srb; progress = Refused completion }) (with_slot tag None t) → t' ≡ with_failed tag (failed_piece on completion) t
table_failed t t' tag on srb completion back e =
    e ∙ ap (λ (s : Srb). with_failed tag (record on { srb = s; progress = Refused completion }) (with_slot tag None t)) back
    ∙ ap (λ (l : List (Option OnTag)). record (with_failed tag (failed_piece on completion) t) { slots = l }) (set-set t.slots tag None (Some (failed_piece on completion)))

-- the bytes that went out are those of the sectors
pub whole_bytes : (size : ℕ) (block bytes : List ℕ) (moved : List (List ℕ)) → bytes ≡ concat moved → moved ≡ moved_by size block bytes → concat (moved_by size block bytes) ≡ bytes
whole_bytes size block bytes moved e f = ap concat (sym f) ∙ sym e

-- what an act leaves
pub record LeftByAct (m : MediumView) (longest : ℕ) (p : Bool) (t : Table) (tag : ℕ) (m' : MediumView) (t' : Table) : Type 0 where
  pub kept : AdapterKept m' longest t'
  pub acts : ActsOrFaults (shown_of m longest t) tag (shown_of m' longest t')
  pub by_table : ActsByTable (view_of m longest p t) tag (view_of m' longest p t')

leaves_along : (m : MediumView) (longest : ℕ) (p : Bool) (t : Table) (tag : ℕ) (m' m'' : MediumView) (t' t'' : Table) → m'' ≡ m' → t'' ≡ t'
    → LeftByAct m longest p t tag m' t' → LeftByAct m longest p t tag m'' t''
leaves_along m longest p t tag m' m'' t' t'' e f left =
    subst (λ (v : MediumView). LeftByAct m longest p t tag v t'') (sym e) (subst (λ (u : Table). LeftByAct m longest p t tag m' u) (sym f) left)

put_back : (m : MediumView) (longest : ℕ) (p : Bool) (t : Table) (tag : ℕ) (on : OnTag) (outcome : Outcome) (m' : MediumView) (t' : Table)
    → AdapterKept m longest t → length t.labels < 64 → piece_at t.slots tag ≡ Some on → on.progress ≡ Untouched
    → PutsBack m p (with_slot tag None t) tag on outcome m' t' → LeftByAct m longest p t tag m' t'
put_back m longest p t tag on (Moved srb) m' t' kept place there untouched (carries, e) =
    let bytes : List ℕ = carries.bytes in
    let below : tag < length t.slots = is_below t.slots tag on there in
    let long : length carries.sectors ≡ length m.sectors = Performs-length m.sector_size m.sectors on.srb.data carries.command carries.moved carries.sectors carries.performs in
    let act = acts m longest t tag on carries.command bytes carries.moved carries.sectors below there untouched carries.means carries.performs carries.bytes_are carries.moved_is in
    leaves_along m longest p t tag (record m { sectors = carries.sectors }) m' (with_moved tag (moved_piece on bytes) t) t' carries.after
    (table_moved t t' tag on srb bytes carries.comes_back e)
    (record {
      kept = move_kept m longest t tag on bytes carries.sectors kept below there untouched long
          (whole_bytes m.sector_size on.srb.block bytes carries.moved carries.bytes_are carries.moved_is) place;
      acts = record { piece = on.piece; one_of = inl (bytes, act) };
      by_table = acts_by_table m longest p t tag on carries.command bytes carries.sectors (kept.pieces tag on there) there untouched carries.means carries.no_fault act;
    })
put_back m longest p t tag on (Failed srb completion) m' t' kept place there untouched (fails, e) =
    let below : tag < length t.slots = is_below t.slots tag on there in
    let fault = faults m longest t tag on completion fails.failures below there untouched in
    leaves_along m longest p t tag (record m { failures = fails.failures }) m' (with_failed tag (failed_piece on completion) t) t' fails.after
    (table_failed t t' tag on srb completion fails.same e)
    (record {
      kept = fail_kept m longest t tag on completion fails.failures kept below there untouched (fault_is_bad (disk_of m p) on.srb fails.decoded completion fails.fault) fails.counted place;
      acts = record { piece = on.piece; one_of = inr (fault, not_booked m longest t tag) };
      by_table = faults_by_table m longest p t tag on completion fails.failures fails.decoded (kept.pieces tag on there) there untouched fails.decodes fails.fault fault;
    })

pub act_leaves : (m : MediumView) (longest : ℕ) (p : Bool) (t : Table) (tag : ℕ) (m' : MediumView) (t' : Table)
    → AdapterKept m longest t → length t.labels < 64 → ActsIn m p t tag m' t' → LeftByAct m longest p t tag m' t'
act_leaves m longest p t tag m' t' kept place h = put_back m longest p t tag h.on h.outcome m' t' kept place h.there h.untouched h.puts_back

-- NO ACT

-- a tag in use comes from a slot
record Slotted (size k : ℕ) (slots : List (Option OnTag)) (use' : TagInUse) : Type 0 where
  place : ℕ
  on : OnTag
  there : piece_at slots place ≡ Some on
  is : use' ≡ in_use_of size (k + place) on

shifted : (size k : ℕ) (slot : Option OnTag) (slots : List (Option OnTag)) (use' : TagInUse) → Slotted size (suc k) slots use' → Slotted size k (slot ∷ slots) use'
shifted size k slot slots use' h =
    let here : suc k + h.place ≡ k + suc h.place = omega arith in
    record { place = suc h.place; on = h.on; there = h.there; is = h.is ∙ ap (λ (n : ℕ). in_use_of size n h.on) here }

all_slotted : (size k : ℕ) (slots : List (Option OnTag)) → All (Slotted size k slots) (tags_of size k slots)
all_slotted size k [] = All-nil (Slotted size k [])
all_slotted size k (None ∷ slots) = All-weaker (Slotted size (suc k) slots) (Slotted size k (None ∷ slots)) (shifted size k None slots) _ (all_slotted size (suc k) slots)
all_slotted size k (Some on ∷ slots) = All-cons (Slotted size k (Some on ∷ slots)) (in_use_of size k on) (tags_of size (suc k) slots)
    (record { place = 0; on = on; there = refl; is = ap (λ (n : ℕ). in_use_of size n on) (sym (add-zero k)) })
    (All-weaker (Slotted size (suc k) slots) (Slotted size k (Some on ∷ slots)) (shifted size k (Some on) slots) _ (all_slotted size (suc k) slots))

fresh_untouched : (size : ℕ) (srb : Srb) (q : Progress) → fate_of size srb q ≡ Fresh → q ≡ Untouched
fresh_untouched size srb Untouched e = refl
fresh_untouched size srb Done e = absurd cc
fresh_untouched size srb (Refused c) e = absurd cc

pub none_fresh : (m : MediumView) (longest : ℕ) (t : Table) (tag : ℕ) → HasNoneUntouched t.slots tag → (use' : TagInUse) (others : List TagInUse)
    → IsOn (shown_of m longest t) tag use' others → use'.fate ≢ Fresh
none_fresh m longest t tag none use' others on fresh =
    let there : Contains (tags_of m.sector_size 0 t.slots) use' = Contains-permutation _ _ use' (IsPermutation-sym _ _ on.in_use) (0, omega arith, refl) in
    let slotted : Slotted m.sector_size 0 t.slots use' = All-contains (Slotted m.sector_size 0 t.slots) (tags_of m.sector_size 0 t.slots) use' (all_slotted m.sector_size 0 t.slots) there in
    let tag_is : slotted.place ≡ tag = sym (zero-add slotted.place) ∙ sym (ap (λ (u : TagInUse). u.tag) slotted.is) ∙ on.has_tag in
    let at : piece_at t.slots tag ≡ Some slotted.on = subst (λ (n : ℕ). piece_at t.slots n ≡ Some slotted.on) tag_is slotted.there in
    none slotted.on at (fresh_untouched m.sector_size slotted.on.srb slotted.on.progress (sym (ap (λ (u : TagInUse). u.fate) slotted.is) ∙ fresh))

pub acts_not : (m : MediumView) (longest : ℕ) (t : Table) (tag : ℕ) (m' : MediumView) (t' : Table) → ActsNotIn m t tag m' t'
    → ActsNot (shown_of m longest t) tag (shown_of m' longest t')
acts_not m longest t tag m' t' h = record {
  none_fresh = none_fresh m longest t tag h.none;
  same = ap (λ (v : MediumView). shown_of v longest t') h.same_medium ∙ ap (λ (u : Table). shown_of m longest u) h.same_table;
}
