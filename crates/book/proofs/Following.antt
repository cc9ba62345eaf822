-- The journal follows labels one by one.
use Rattle.book.proofs.Common.{◌≡◌, ◌≢◌, inl, inr, ℕ, suc, ◌+◌, ◌-◌, ◌<◌, ◌≤◌, List, length, Option, Some, None, refl, sym, ap, subst, ◌∙◌, arith, get_or-set_same, get_or-set_other, get_or_past, length-set, AdapterView, Armed, Disarms, JournalView, HasNone, armed_at, TraceEntry, Follows, FollowsFrom, FollowsOn, IsDisarmed, IsDisarmedOn}
use Rattle.std.specs.Prelude.{◌⊎◌, slice_get, slice_set}
use mathlib.Core.Logic.{dite}
use native.Mathlib.Decide.{ℕ_discrete}

-- A PIECE IS DISARMED

pub none_armed : (slots : List (Option Armed)) (tag piece : ℕ) → armed_at slots tag ≡ None → HasNone slots tag piece
none_armed slots tag piece none armed there = absurd (differ (sym none ∙ there))
  where
    differ : None ≡ Some armed → ⊥
    differ e = absurd (cc (e))

pub other_armed : (slots : List (Option Armed)) (tag piece : ℕ) (armed : Armed) → armed_at slots tag ≡ Some armed → armed.piece ≢ piece → HasNone slots tag piece
other_armed slots tag piece armed there other found is = subst (λ (a : Armed). a.piece ≢ piece) (some_same (sym there ∙ is)) other
  where
    some_same : {x y : Armed} → Some x ≡ Some y → x ≡ y
    some_same {x} {y} e = cc

pub disarmed : (old new : JournalView) (tag piece : ℕ) → tag < length old.slots → Disarms old tag new → IsDisarmedOn tag piece old new
disarmed old new tag piece inside disarms =
    let slots : new.slots ≡ slice_set old.slots tag None = ap (λ (j : JournalView). j.slots) disarms.after in
    let own : HasNone new.slots tag piece = none_armed new.slots tag piece (ap (λ (ss : List (Option Armed)). armed_at ss tag) slots ∙ get_or-set_same old.slots tag None None inside) in
    record {
      none = own;
      others = λ other none.
          dite (ℕ_discrete other tag)
          (λ (e : other ≡ tag). subst (λ (t : ℕ). HasNone new.slots t piece) (sym e) own)
          (λ (ne : other ≢ tag). λ armed there. none armed (sym (get_or-set_other old.slots tag other None None ne) ∙ sym (ap (λ (ss : List (Option Armed)). armed_at ss other) slots) ∙ there));
      as_many = ap (λ (ss : List (Option Armed)). length ss) slots ∙ length-set old.slots tag None;
      entered = ap (λ (j : JournalView). j.entered) disarms.after;
      reservations = ap (λ (j : JournalView). j.reservations) disarms.after;
    }

-- on tags below this one
pub record IsDisarmedBelow (tag piece : ℕ) (old new : JournalView) : Type 0 where
  pub below : (t : ℕ) → t < tag → HasNone new.slots t piece
  pub as_many : length new.slots ≡ length old.slots
  pub entered : new.entered ≡ old.entered
  pub reservations : new.reservations ≡ old.reservations

pub disarmed_first : (journal : JournalView) (piece : ℕ) → IsDisarmedBelow 0 piece journal journal
disarmed_first journal piece = record { below = λ t low. absurd (omega (arith, low)); as_many = refl; entered = refl; reservations = refl }

pub disarmed_more : (old mid new : JournalView) (tag piece : ℕ) → IsDisarmedBelow tag piece old mid → IsDisarmedOn tag piece mid new → IsDisarmedBelow (tag + 1) piece old new
disarmed_more old mid new tag piece before one = record {
  below = λ t low.
      dite (ℕ_discrete t tag)
      (λ (e : t ≡ tag). subst (λ (k : ℕ). HasNone new.slots k piece) (sym e) one.none)
      (λ (ne : t ≢ tag). one.others t (before.below t (grind (arith, low, ne))));
  as_many = one.as_many ∙ before.as_many;
  entered = one.entered ∙ before.entered;
  reservations = one.reservations ∙ before.reservations;
}

pub disarmed_all : (old new : JournalView) (tag piece : ℕ) → IsDisarmedBelow tag piece old new → length old.slots ≤ tag → IsDisarmed piece old new
disarmed_all old new tag piece all most = record {
  none = λ t. elim (below t) [
    | inl low ↦ all.below t low
    | inr high ↦ none_armed new.slots t piece (get_or_past new.slots t None (let many = all.as_many in grind (arith, high, many, most)))
  ];
  entered = all.entered;
  reservations = all.reservations;
}
  where
    below : (t : ℕ) → (t < tag) ⊎ (tag ≤ t)
    below t = grind arith

-- LABELS

pub followed_none : (view : AdapterView) (entries : List TraceEntry) (from : ℕ) (journal : JournalView) → FollowsFrom view entries from (from - from) journal journal
followed_none view entries from journal =
    let none : from - from ≡ 0 = omega arith in
    subst (λ (n : ℕ). FollowsFrom view entries from n journal journal) (sym none) refl

pub followed_all : (view : AdapterView) (entries : List TraceEntry) (from place : ℕ) (old new : JournalView) → from ≤ place → length entries ≤ place → FollowsFrom view entries from (place - from) old new → FollowsOn view entries from old new
followed_all view entries from place old new low most follows = (place - from, omega (arith, low, most), follows)

pub followed_more : (view : AdapterView) (entries : List TraceEntry) (from place : ℕ) (old mid new : JournalView) (e : TraceEntry) → from ≤ place → FollowsFrom view entries from (place - from) old mid
    → slice_get entries place ≡ Some e → Follows view e.label mid new → FollowsFrom view entries from (place + 1 - from) old new
followed_more view entries from place old mid new e low before there follows =
    let next : place + 1 - from ≡ suc (place - from) = omega (arith, low) in
    let at : from + (place - from) ≡ place = omega (arith, low) in
    subst (λ (n : ℕ). FollowsFrom view entries from n old new) (sym next) (mid, before, (e, ap (λ (n : ℕ). slice_get entries n) at ∙ there, follows))
