-- What each call of the adapter in memory leaves, from what it shows before.
use Rattle.std.proofs.Common.{◌≡◌, ◌<◌, ◌≤◌, ◌^◌, ℕ, ◌+◌, Bool, IsTrue, true, false, List, [], length, get_or, All, Option, Some, None, MatchBool, MatchOption, IfSome, is_some, refl, sym, ap, ◌∙◌, subst, arith}
use Rattle.std.specs.Prelude.{Any}
use Rattle.srb.specs.declared.Srb.{Srb}
use Rattle.srb.specs.declared.Completion.{Completion}
use Rattle.srb.specs.declared.DeviceLabel.{DeviceLabel}
use Rattle.adapter.specs.View.{AdapterView, IsInOrder, IsFree, HasTag, HasNotTag, IsReserved, IsWritable, ReservesMore, ReservesNear, Accepts}
use Rattle.sector.specs.declared.Extent.{Extent}
use Rattle.disk.specs.Medium.{MediumView, HasWholeSectors, Reserves as MediumReserves, IsReserved as MediumReserved, ReservesNear as MediumReservesNear}
use Rattle.miniport.specs.declared.on_tag.OnTag.{OnTag}
use Rattle.adapter.specs.Calls.{ActsOrFaults, ActsNot, Finishes, FinishesNot, Resets}
use Rattle.miniport.specs.Faults.{busy}
use Rattle.miniport.specs.inside.Slots.{TakesFirst, Table, ComesBack, piece_at, tags_of, completion_of, with_new, with_returned, with_reset}
use Rattle.miniport.specs.Memory.{MemView, shown_of, view_of, Dues, SameDues, ActsByTable, ResetsAll}
use Rattle.miniport.specs.inside.Memory.{AdapterKept, ActsIn, ActsNotIn}
use Rattle.miniport.proofs.Acts.{LeftByAct, act_leaves, acts_not, is_below}
use Rattle.miniport.proofs.Keeping.{in_order, empty_slot, accept_kept, finish_kept, reset_kept, is_short}
use Rattle.miniport.proofs.Pieces.{pieces_along, other_medium}
use Rattle.miniport.proofs.ResetShown.{resets, resets_all}
use Rattle.miniport.proofs.Showing.{accepts, accepts_due, finishes, finishes_due, is_due}
use Rattle.miniport.proofs.TagsInUse.{is_free, is_used}

-- what a call leaves: all is kept, and two relations hold of what is shown then
pub record After (m : MediumView) (longest : ℕ) (p : Bool) (t : Table) (Shows : AdapterView → Type 0) (Due : MemView → Type 0) : Type 0 where
  pub kept : AdapterKept m longest t
  pub order : IsInOrder (shown_of m longest t)
  pub shown : Shows (shown_of m longest t)
  pub due : Due (view_of m longest p t)

-- SHOWN

pub order_seen : (m : MediumView) (longest : ℕ) (p : Bool) (t : Table) (v : MemView) → view_of m longest p t ≡ v → HasWholeSectors m → AdapterKept m longest t
    → IsInOrder v.shown
order_seen m longest p t v e whole kept = subst (λ (u : MemView). IsInOrder u.shown) e (in_order m longest t whole kept)

used_or_free : (size : ℕ) (slots : List (Option OnTag)) (tag : ℕ) (slot : Option OnTag) → piece_at slots tag ≡ slot
    → MatchBool (is_some slot) (Any (HasTag tag) (tags_of size 0 slots)) (All (HasNotTag tag) (tags_of size 0 slots))
used_or_free size slots tag (Some on) e = is_used size slots tag on e
used_or_free size slots tag None e = is_free size slots tag e

pub in_use_seen : (m : MediumView) (longest : ℕ) (p : Bool) (t : Table) (v : MemView) (tag : ℕ) (b : Bool) → view_of m longest p t ≡ v
    → b ≡ is_some (piece_at t.slots tag) → MatchBool b (Any (HasTag tag) v.shown.tags) (IsFree v.shown tag)
in_use_seen m longest p t v tag b e f =
    subst (λ (u : MemView). MatchBool b (Any (HasTag tag) u.shown.tags) (IsFree u.shown tag)) e
    (subst (λ (c : Bool). MatchBool c (Any (HasTag tag) (shown_of m longest t).tags) (IsFree (shown_of m longest t) tag)) (sym f)
    (used_or_free m.sector_size t.slots tag (piece_at t.slots tag) refl))

-- ACCEPT

pub free_slot : (m : MediumView) (longest : ℕ) (p : Bool) (t : Table) (v : MemView) (tag : ℕ) → view_of m longest p t ≡ v → IsFree v.shown tag → piece_at t.slots tag ≡ None
free_slot m longest p t v tag e free = empty_slot m longest t tag (subst (λ (u : MemView). IsFree u.shown tag) (sym e) free)

pub record AsksAccept (v : MemView) (tag : ℕ) (srb : Srb) : Type 0 where
  pub below : tag < v.shown.depth
  pub free : IsFree v.shown tag
  pub writable : IsWritable v.shown srb
  pub buffers : IsTrue v.shown.keeps_bytes → length srb.data ≤ srb.for_label
  pub few : v.shown.accepted < 2 ^ 100
  pub place : length v.shown.labels < 64

accepted : (m : MediumView) (longest : ℕ) (p : Bool) (t : Table) (tag piece : ℕ) (srb : Srb) → HasWholeSectors m → AdapterKept m longest t → AsksAccept (view_of m longest p t) tag srb
    → After m longest p (with_new tag piece srb t) (Accepts (shown_of m longest t) tag piece srb) (Dues tag (Some busy) (view_of m longest p t))
accepted m longest p t tag piece srb whole kept asks =
    let none : piece_at t.slots tag ≡ None = empty_slot m longest t tag asks.free in
    let keeps : AdapterKept m longest (with_new tag piece srb t) =
    accept_kept m longest t tag piece srb kept asks.below none asks.writable asks.buffers asks.few asks.place in
    record {
      kept = keeps;
      order = in_order m longest (with_new tag piece srb t) whole keeps;
      shown = accepts m longest t tag piece srb asks.free asks.below none;
      due = accepts_due m longest p t tag piece srb;
    }

pub after_accept : (m : MediumView) (longest : ℕ) (p : Bool) (t t' : Table) (v : MemView) (tag piece : ℕ) (srb : Srb) → view_of m longest p t ≡ v
    → t' ≡ with_new tag piece srb t → HasWholeSectors m → AdapterKept m longest t → AsksAccept v tag srb
    → After m longest p t' (Accepts v.shown tag piece srb) (Dues tag (Some busy) v)
after_accept m longest p t t' v tag piece srb e f whole kept =
    subst (λ (u : MemView). AsksAccept u tag srb → After m longest p t' (Accepts u.shown tag piece srb) (Dues tag (Some busy) u)) e
    (λ asks. subst (λ (s : Table). After m longest p s (Accepts (shown_of m longest t) tag piece srb) (Dues tag (Some busy) (view_of m longest p t))) (sym f)
    (accepted m longest p t tag piece srb whole kept asks))

-- ACT

pub record AfterAct (v : MemView) (tag : ℕ) (b : Bool) (m : MediumView) (longest : ℕ) (p : Bool) (t : Table) : Type 0 where
  pub kept : AdapterKept m longest t
  pub order : IsInOrder (shown_of m longest t)
  pub acts : MatchBool b (ActsOrFaults v.shown tag (shown_of m longest t)) (ActsNot v.shown tag (shown_of m longest t))
  pub by_table : MatchBool b (ActsByTable v tag (view_of m longest p t)) (view_of m longest p t ≡ v)

acted_on : (m : MediumView) (longest : ℕ) (p : Bool) (t : Table) (tag : ℕ) (b : Bool) (m' : MediumView) (t' : Table) → HasWholeSectors m' → AdapterKept m longest t
    → length t.labels < 64 → MatchBool b (ActsIn m p t tag m' t') (ActsNotIn m t tag m' t') → AfterAct (view_of m longest p t) tag b m' longest p t'
acted_on m longest p t tag true m' t' whole kept place h =
    let left : LeftByAct m longest p t tag m' t' = act_leaves m longest p t tag m' t' kept place h in
    record { kept = left.kept; order = in_order m' longest t' whole left.kept; acts = left.acts; by_table = left.by_table }
acted_on m longest p t tag false m' t' whole kept place h =
    let keeps : AdapterKept m' longest t' = subst (λ (n : MediumView). AdapterKept n longest t') (sym h.same_medium) (subst (λ (s : Table). AdapterKept m longest s) (sym h.same_table) kept) in
    record {
      kept = keeps;
      order = in_order m' longest t' whole keeps;
      acts = acts_not m longest t tag m' t' h;
      by_table = ap (λ (n : MediumView). view_of n longest p t') h.same_medium ∙ ap (λ (s : Table). view_of m longest p s) h.same_table;
    }

pub after_act : (m : MediumView) (longest : ℕ) (p : Bool) (t : Table) (v : MemView) (tag : ℕ) (b : Bool) (m' : MediumView) (t' : Table) → view_of m longest p t ≡ v
    → HasWholeSectors m' → AdapterKept m longest t → length v.shown.labels < 64 → MatchBool b (ActsIn m p t tag m' t') (ActsNotIn m t tag m' t') → AfterAct v tag b m' longest p t'
after_act m longest p t v tag b m' t' e whole kept =
    subst (λ (u : MemView). length u.shown.labels < 64 → MatchBool b (ActsIn m p t tag m' t') (ActsNotIn m t tag m' t') → AfterAct u tag b m' longest p t') e
    (acted_on m longest p t tag b m' t' whole kept)

-- FINISH

-- what the table says of a piece that comes back, or of none
abbrev pub Takes : Table → ℕ → Option (Srb × Completion) → Table → Type 0
Takes t tag r t' = MatchOption r ((piece_at t.slots tag ≡ None) × (t' ≡ t)) (λ (back : Srb × Completion). ComesBack t tag back.0 back.1 t')

abbrev pub ShowsFinish : AdapterView → ℕ → Option (Srb × Completion) → AdapterView → Type 0
ShowsFinish old tag r new = MatchOption r (FinishesNot old tag new) (λ (back : Srb × Completion). Finishes old tag back.0 back.1 new)

abbrev pub IsDue : MemView → ℕ → Option (Srb × Completion) → Type 0
IsDue v tag r = IfSome r (λ (back : Srb × Completion). get_or v.due tag None ≡ Some back.1)

abbrev pub DuesAfter : ℕ → Option (Srb × Completion) → MemView → MemView → Type 0
DuesAfter tag r old new = MatchOption r (new ≡ old) (λ (back : Srb × Completion). Dues tag None old new)

pub record AfterFinish (v : MemView) (tag : ℕ) (r : Option (Srb × Completion)) (m : MediumView) (longest : ℕ) (p : Bool) (t : Table) : Type 0 where
  pub kept : AdapterKept m longest t
  pub order : IsInOrder (shown_of m longest t)
  pub finishes : ShowsFinish v.shown tag r (shown_of m longest t)
  pub completion : IsDue v tag r
  pub due : DuesAfter tag r v (view_of m longest p t)

same_srb : (srb on_srb : Srb) (c d : Completion) → c ≡ d → srb ≡ record on_srb { sense = c.sense } → srb ≡ record on_srb { sense = d.sense }
same_srb srb on_srb c d e f = f ∙ ap (λ (x : Completion). record on_srb { sense = x.sense }) e

finish_along : (old new : AdapterView) (tag : ℕ) (srb srb' : Srb) (c c' : Completion) → srb ≡ srb' → c ≡ c' → Finishes old tag srb' c' new → Finishes old tag srb c new
finish_along old new tag srb srb' c c' e f h =
    subst (λ (x : Srb). Finishes old tag x c new) (sym e) (subst (λ (x : Completion). Finishes old tag srb' x new) (sym f) h)

came_back : (m : MediumView) (longest : ℕ) (p : Bool) (t : Table) (tag : ℕ) (srb : Srb) (c : Completion) (on : OnTag) → HasWholeSectors m → AdapterKept m longest t
    → length t.labels < 64 → piece_at t.slots tag ≡ Some on → c ≡ completion_of on → srb ≡ record on.srb { sense = c.sense }
    → AfterFinish (view_of m longest p t) tag (Some (srb, c)) m longest p (with_returned tag on t)
came_back m longest p t tag srb c on whole kept place there e f =
    let below : tag < length t.slots = is_below t.slots tag on there in
    let keeps : AdapterKept m longest (with_returned tag on t) = finish_kept m longest t tag on kept below place in
    record {
      kept = keeps;
      order = in_order m longest (with_returned tag on t) whole keeps;
      finishes = finish_along (shown_of m longest t) (shown_of m longest (with_returned tag on t)) tag srb _ c _ (same_srb srb on.srb c (completion_of on) e f) e
          (finishes m longest t tag on (kept.pieces tag on there) there);
      completion = is_due t.slots tag on below there ∙ ap (λ (x : Completion). Some x) (sym e);
      due = finishes_due m longest p t tag on;
    }

none_came : (m : MediumView) (longest : ℕ) (p : Bool) (t : Table) (tag : ℕ) → HasWholeSectors m → AdapterKept m longest t → piece_at t.slots tag ≡ None
    → AfterFinish (view_of m longest p t) tag None m longest p t
none_came m longest p t tag whole kept none = record {
  kept = kept;
  order = in_order m longest t whole kept;
  finishes = record { is_free = is_free m.sector_size t.slots tag none; same = refl };
  completion = tt;
  due = refl;
}

finished : (m : MediumView) (longest : ℕ) (p : Bool) (t t' : Table) (tag : ℕ) (r : Option (Srb × Completion)) → HasWholeSectors m → AdapterKept m longest t → length t.labels < 64
    → Takes t tag r t' → AfterFinish (view_of m longest p t) tag r m longest p t'
finished m longest p t t' tag None whole kept place (none, same) =
    subst (λ (s : Table). AfterFinish (view_of m longest p t) tag None m longest p s) (sym same) (none_came m longest p t tag whole kept none)
finished m longest p t t' tag (Some back) whole kept place h =
    subst (λ (s : Table). AfterFinish (view_of m longest p t) tag (Some back) m longest p s) (sym h.after)
    (came_back m longest p t tag back.0 back.1 h.on whole kept place h.was_there h.completion_is h.comes_back)

pub after_finish : (m : MediumView) (longest : ℕ) (p : Bool) (t t' : Table) (v : MemView) (tag : ℕ) (r : Option (Srb × Completion)) → view_of m longest p t ≡ v
    → HasWholeSectors m → AdapterKept m longest t → length v.shown.labels < 64 → Takes t tag r t' → AfterFinish v tag r m longest p t'
after_finish m longest p t t' v tag r e whole kept =
    subst (λ (u : MemView). length u.shown.labels < 64 → Takes t tag r t' → AfterFinish u tag r m longest p t') e
    (λ place takes. finished m longest p t t' tag r whole kept place takes)

-- RESET

reset_whole : (m : MediumView) (longest : ℕ) (p : Bool) (t : Table) → HasWholeSectors m → AdapterKept m longest t → length t.labels + length t.slots ≤ 64
    → After m longest p (with_reset t) (Resets (shown_of m longest t)) (ResetsAll (view_of m longest p t))
reset_whole m longest p t whole kept places =
    let keeps : AdapterKept m longest (with_reset t) = reset_kept m longest t kept places in
    record {
      kept = keeps;
      order = in_order m longest (with_reset t) whole keeps;
      shown = resets m longest t (λ tag on there met. ((kept.pieces tag on there).met met).1);
      due = resets_all m longest p t;
    }

pub after_reset : (m : MediumView) (longest : ℕ) (p : Bool) (t t' : Table) (v : MemView) → view_of m longest p t ≡ v → t' ≡ with_reset t
    → HasWholeSectors m → AdapterKept m longest t → length v.shown.labels + v.shown.depth ≤ 64 → After m longest p t' (Resets v.shown) (ResetsAll v)
after_reset m longest p t t' v e f whole kept =
    subst (λ (u : MemView). length u.shown.labels + u.shown.depth ≤ 64 → After m longest p t' (Resets u.shown) (ResetsAll u)) e
    (λ places. subst (λ (s : Table). After m longest p s (Resets (shown_of m longest t)) (ResetsAll (view_of m longest p t))) (sym f)
    (reset_whole m longest p t whole kept places))

-- RESERVE

more_reserved : (m : MediumView) (longest : ℕ) (t : Table) (reserved : List Extent)
    → ((extent : Extent) → MediumReserved m extent → MediumReserved (record m { reserved = reserved }) extent) → AdapterKept m longest t
    → AdapterKept (record m { reserved = reserved }) longest t
more_reserved m longest t reserved lasts kept =
    let m' = record m { reserved = reserved } in
    record {
      sector_size = kept.sector_size;
      sectors = kept.sectors;
      max_transfer = kept.max_transfer;
      depth = kept.depth;
      pieces = pieces_along m m' t.failures t.failures t.slots
          (other_medium m m' t.failures refl refl (λ srb ready lba count fua means within. lasts _ (ready lba count fua means within))) kept.pieces;
      accepted = kept.accepted;
      failures = kept.failures;
      medium_failures = kept.medium_failures;
      labels = kept.labels;
    }

reserved_along : (m : MediumView) (longest : ℕ) (p : Bool) (t : Table) (reserved : List Extent)
    → ((extent : Extent) → MediumReserved m extent → MediumReserved (record m { reserved = reserved }) extent) → HasWholeSectors m → AdapterKept m longest t
    → After (record m { reserved = reserved }) longest p t (ReservesMore (shown_of m longest t)) (SameDues (view_of m longest p t))
reserved_along m longest p t reserved lasts whole kept =
    let keeps : AdapterKept (record m { reserved = reserved }) longest t = more_reserved m longest t reserved lasts kept in
    record {
      kept = keeps;
      order = in_order (record m { reserved = reserved }) longest t whole keeps;
      shown = record { reserved = reserved; after = refl; lasts = lasts };
      due = refl;
    }

pub after_reserve : (m m' : MediumView) (longest : ℕ) (p : Bool) (t : Table) (v : MemView) → view_of m longest p t ≡ v → MediumReserves m m'
    → HasWholeSectors m → AdapterKept m longest t → After m' longest p t (ReservesMore v.shown) (SameDues v)
after_reserve m m' longest p t v e reserves whole kept =
    let lasts : (extent : Extent) → MediumReserved m extent → MediumReserved (record m { reserved = m'.reserved }) extent = reserves.lasts in
    subst (λ (u : MemView). After m' longest p t (ReservesMore u.shown) (SameDues u)) e
    (subst (λ (n : MediumView). After n longest p t (ReservesMore (shown_of m longest t)) (SameDues (view_of m longest p t))) (sym reserves.after)
    (reserved_along m longest p t m'.reserved lasts whole kept))

-- what is reserved more is near the extent, as in the medium
pub near_seen : (m m' : MediumView) (longest : ℕ) (p : Bool) (t : Table) (v : MemView) (extent : Extent) → view_of m longest p t ≡ v → MediumReservesNear m extent m'
    → ReservesNear v.shown extent (shown_of m' longest t)
near_seen m m' longest p t v extent e near = subst (λ (u : MemView). ReservesNear u.shown extent (shown_of m' longest t)) e near

-- and what is reserved is so in the medium
pub reserved_below : (m : MediumView) (longest : ℕ) (p : Bool) (t : Table) (v : MemView) (extent : Extent) → view_of m longest p t ≡ v → IsReserved v.shown extent → MediumReserved m extent
reserved_below m longest p t v extent e reserved = subst (λ (u : MemView). IsReserved u.shown extent) (sym e) reserved

-- TAKE A LABEL

abbrev pub TakesLabel : Table → Option DeviceLabel → Table → Type 0
TakesLabel t r t' = MatchOption r ((t.labels ≡ []) × (t' ≡ t)) (λ (label : DeviceLabel). TakesFirst t label t')

pub label_taken : (m : MediumView) (longest : ℕ) (t t' : Table) (r : Option DeviceLabel) → TakesLabel t r t' → AdapterKept m longest t → AdapterKept m longest t'
label_taken m longest t t' None (none, same) kept = subst (λ (s : Table). AdapterKept m longest s) (sym same) kept
label_taken m longest t t' (Some label) h kept =
    let long = ap (λ (l : List DeviceLabel). length l) h.is_first in
    subst (λ (s : Table). AdapterKept m longest s) (sym h.after) (is_short m longest t h.rest (omega (arith, long)) kept)

-- all labels leave
pub labels_forgotten : (m : MediumView) (longest : ℕ) (t t' : Table) → t' ≡ record t { labels = [] } → AdapterKept m longest t → AdapterKept m longest t'
labels_forgotten m longest t t' after kept = subst (λ (s : Table). AdapterKept m longest s) (sym after) (is_short m longest t [] (omega arith) kept)
