-- The marks of a traced stack: a slot is armed exactly with the open request there.
use Rattle.std.specs.Prelude.{◌≡◌, ℕ, ◌%◌, ◌==◌, true, false, Option, Some, None, if◌then◌else◌}
use Rattle.cancel_marks.specs.declared.rule.Slot.{Slot}
use Rattle.cancel_marks.specs.declared.rule.View.{View}
use Rattle.cancel_marks.specs.Marks.{slot_at, looking}

-- a slot is armed with this number, or with none
abbrev pub IsArmedAs : Slot → Option ℕ → Type 0
IsArmedAs s None = s.armed ≡ false
IsArmedAs s (Some number) = (s.armed ≡ true) × (s.last ≡ number)

-- slots were armed or retired, and none was looked at
pub record LooksNowhere (old new : View) : Type 0 where
  pub looks : (k : ℕ) → (slot_at new k).looks ≡ (slot_at old k).looks
  pub seen : new.seen ≡ old.seen
  pub marks : new.marks ≡ old.marks

-- a slot that has an open request is looked at once, and this is the number if it is marked; a slot that has none is
-- not looked at
abbrev pub LooksAt : Option ℕ → ℕ → View → Option ℕ → View → Type 0
LooksAt None slot old seen new = (new ≡ old) × (seen ≡ None)
LooksAt (Some number) slot old seen new =
    (new ≡ looking old slot new.found) × (seen ≡ (if new.found % 2 == 1 then Some number else None))
