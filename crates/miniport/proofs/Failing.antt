-- A piece that fails whatever its command asks for.
use Rattle.std.proofs.Common.{◌≡◌, ◌<◌, inr, ℕ, Bool, true, false, MatchBool, length, slice_set, None, refl, sym, subst, arith}
use Rattle.srb.specs.declared.Completion.{Completion}
use Rattle.srb.specs.declared.Class.TheVariants.{Bad}
use Rattle.srb.specs.Fate.{class_of}
use Rattle.adapter.specs.View.{IsInOrder}
use Rattle.adapter.specs.Calls.{ActsOrFaults, ActsNot}
use Rattle.disk.specs.Medium.{MediumView, HasWholeSectors}
use Rattle.miniport.specs.declared.on_tag.OnTag.{OnTag}
use Rattle.miniport.specs.inside.Slots.{Table, Fails, HasNoneUntouched, in_use_of, tags_of, with_failed}
use Rattle.miniport.specs.Memory.{MemView, FailsWith, shown_of, view_of}
use Rattle.miniport.specs.inside.Memory.{AdapterKept}
use Rattle.miniport.proofs.Acts.{is_below, none_fresh, table_failed}
use Rattle.miniport.proofs.Keeping.{failed_piece, fail_kept, in_order}
use Rattle.miniport.proofs.Showing.{not_booked, faults, fails_by}
use Rattle.miniport.proofs.TagsInUse.{taken_first}

-- what a failure leaves
pub record AfterFail (v : MemView) (tag : ℕ) (completion : Completion) (b : Bool) (m : MediumView) (longest : ℕ) (p : Bool) (t : Table) : Type 0 where
  pub kept : AdapterKept m longest t
  pub order : IsInOrder (shown_of m longest t)
  pub acts : MatchBool b (ActsOrFaults v.shown tag (shown_of m longest t)) (ActsNot v.shown tag (shown_of m longest t))
  pub fails : MatchBool b (FailsWith v tag completion (view_of m longest p t)) (view_of m longest p t ≡ v)

failed_on : (m : MediumView) (longest : ℕ) (p : Bool) (t t' : Table) (tag : ℕ) (completion : Completion) (b : Bool) → HasWholeSectors m → AdapterKept m longest t
    → class_of completion ≡ Bad completion → length t.labels < 64 → MatchBool b (Fails t tag completion t') (HasNoneUntouched t.slots tag × (t' ≡ t))
    → AfterFail (view_of m longest p t) tag completion b m longest p t'
failed_on m longest p t t' tag completion true whole kept bad place h =
    let on : OnTag = h.on in
    let below : tag < length t.slots = is_below t.slots tag on h.was_there in
    let fault = faults m longest t tag on completion m.failures below h.was_there h.untouched in
    let keeps : AdapterKept m longest (with_failed tag (failed_piece on completion) t) =
    fail_kept m longest t tag on completion m.failures kept below h.was_there h.untouched bad (omega arith) place in
    subst (λ (s : Table). AfterFail (view_of m longest p t) tag completion true m longest p s) (sym (table_failed t t' tag on on.srb completion refl h.after))
    (record {
      kept = keeps;
      order = in_order m longest (with_failed tag (failed_piece on completion) t) whole keeps;
      acts = record { piece = on.piece; one_of = inr (fault, not_booked m longest t tag) };
      fails = record {
        use' = in_use_of m.sector_size tag on;
        others = tags_of m.sector_size 0 (slice_set t.slots tag None);
        is_on = record { in_use = taken_first m.sector_size t.slots tag on h.was_there; has_tag = refl };
        ends = fails_by m longest p t tag on completion m.failures (kept.pieces tag on h.was_there) h.untouched fault;
      };
    })
failed_on m longest p t t' tag completion false whole kept bad place (none, same) =
    subst (λ (s : Table). AfterFail (view_of m longest p t) tag completion false m longest p s) (sym same)
    (record {
      kept = kept;
      order = in_order m longest t whole kept;
      acts = record { none_fresh = none_fresh m longest t tag none; same = refl };
      fails = refl;
    })

pub after_fail : (m : MediumView) (longest : ℕ) (p : Bool) (t t' : Table) (v : MemView) (tag : ℕ) (completion : Completion) (b : Bool) → view_of m longest p t ≡ v
    → HasWholeSectors m → AdapterKept m longest t → class_of completion ≡ Bad completion → length v.shown.labels < 64
    → MatchBool b (Fails t tag completion t') (HasNoneUntouched t.slots tag × (t' ≡ t)) → AfterFail v tag completion b m longest p t'
after_fail m longest p t t' v tag completion b e whole kept bad =
    subst (λ (u : MemView). length u.shown.labels < 64 → MatchBool b (Fails t tag completion t') (HasNoneUntouched t.slots tag × (t' ≡ t))
    → AfterFail u tag completion b m longest p t') e
    (failed_on m longest p t t' tag completion b whole kept bad)
