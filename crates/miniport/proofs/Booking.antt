-- What may act, and what is booked of it.
use Rattle.std.proofs.Common.{◌≡◌, ℕ, Bool, false, slice_set, Some, None, Result, refl, ap, subst}
use Rattle.srb.specs.declared.Entry.{Entry}
use Rattle.srb.specs.declared.Completion.{Completion}
use Rattle.adapter.specs.Calls.{HasNoneFresh}
use Rattle.adapter.specs.Booking.{IsArmed, Books}
use Rattle.disk.specs.Medium.{MediumView}
use Rattle.miniport.specs.declared.on_tag.OnTag.{OnTag}
use Rattle.miniport.specs.declared.on_tag.Progress.{Progress}
use Rattle.miniport.specs.declared.on_tag.Progress.TheVariants.{Untouched}
use Rattle.miniport.specs.inside.Slots.{Table, HasNoneUntouched, piece_at, in_use_of, tags_of, fate_of}
use Rattle.miniport.specs.Memory.{MemView, shown_of, view_of}
use Rattle.miniport.proofs.TagsInUse.{taken_first}
use Rattle.miniport.proofs.Acts.{none_fresh}

-- WHAT MAY ACT

armed_on : (m : MediumView) (longest : ℕ) (t : Table) (tag : ℕ) (on : OnTag) → piece_at t.slots tag ≡ Some on → on.progress ≡ Untouched → IsArmed (shown_of m longest t) tag on.piece on.srb
armed_on m longest t tag on there untouched = record {
  use' = in_use_of m.sector_size tag on;
  others = tags_of m.sector_size 0 (slice_set t.slots tag None);
  is_on = record { in_use = taken_first m.sector_size t.slots tag on there; has_tag = refl };
  is_piece = refl;
  is_fresh = ap (λ (p : Progress). fate_of m.sector_size on.srb p) untouched;
  is_srb = refl;
}

pub armed_seen : (m : MediumView) (longest : ℕ) (p : Bool) (t : Table) (v : MemView) (tag : ℕ) (on : OnTag) → view_of m longest p t ≡ v → piece_at t.slots tag ≡ Some on → on.progress ≡ Untouched
    → IsArmed v.shown tag on.piece on.srb
armed_seen m longest p t v tag on e there untouched = subst (λ (u : MemView). IsArmed u.shown tag on.piece on.srb) e (armed_on m longest t tag on there untouched)

pub none_armed : (m : MediumView) (longest : ℕ) (p : Bool) (t : Table) (v : MemView) (tag : ℕ) → view_of m longest p t ≡ v → HasNoneUntouched t.slots tag → HasNoneFresh v.shown tag
none_armed m longest p t v tag e none = subst (λ (u : MemView). HasNoneFresh u.shown tag) e (none_fresh m longest t tag none)

-- AN ADAPTER THAT HAS ITS SECTORS BOOKS NOTHING

pub books_none : (m : MediumView) (longest : ℕ) (p : Bool) (t : Table) (v : MemView) (tag piece : ℕ) (what : Result Entry Completion) → view_of m longest p t ≡ v → Books v.shown tag piece what v.shown
books_none m longest p t v tag piece what e = subst (λ (u : MemView). Books u.shown tag piece what u.shown) e (record {
  booked = false;
  decides = (λ is. absurd (cc (is)), λ h. absurd (cc (h.apart)));
  after = refl;
})
