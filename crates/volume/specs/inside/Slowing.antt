-- Commands that come back busy or take longer by rules.
use Rattle.std.specs.Prelude.{◌≡◌, ◌⊎◌, ℕ, ◌+◌, [], map, min, Bool, true, false, Option, Some}
use Rattle.ntstatus.specs.First.{first_some}
use Rattle.sector.specs.declared.Extent.{Extent}
use Rattle.srb.specs.declared.Srb.{Srb}
use Rattle.injection.specs.declared.Kind.{Kind}
use Rattle.injection.specs.declared.Kind.TheVariants.{Busy, Delay}
use Rattle.injection.specs.Rules.{Names, behind, kind_if_due}
use Rattle.adapter.specs.View.{AdapterView}
use Rattle.adapter.specs.Calls.{HasNoneFresh}
use Rattle.adapter.specs.Booking.{IsArmed}
use Rattle.volume.specs.declared.slowing.Slowing.{Slowing}

-- the tag's piece has done nothing yet, and names these sectors
pub record AsksOn (view : AdapterView) (tag : ℕ) (asked : Extent) : Type 0 where
  pub piece : ℕ
  pub srb : Srb
  pub armed : IsArmed view tag piece srb
  pub names : Names srb.block asked

-- what the first rule that is due does to a command that names these sectors
abbrev pub kind_for : Extent → Slowing → Option Kind
kind_for asked slowing = first_some (map (kind_if_due asked) slowing.rules.items)

-- a command comes back busy
abbrev pub is_busy : Option Kind → Bool
is_busy (Some Busy) = true
is_busy _ = false

-- by how many milliseconds commands were delayed, with one more
abbrev pub delayed_by : Option Kind → ℕ → ℕ
delayed_by (Some (Delay ms)) delay = min (delay + ms) 18446744073709551615
delayed_by _ delay = delay

-- a command that names these sectors was counted, and turned back if the rule says so
pub record IsCounted (old : Slowing) (asked : Extent) (turned : Bool) (new : Slowing) : Type 0 where
  pub busy : turned ≡ is_busy (kind_for asked old)
  pub counted : new.rules.items ≡ map (behind asked) old.rules.items
  pub delayed : new.delay ≡ delayed_by (kind_for asked old) old.delay

-- the command of the tag's piece was counted; nothing changed where there are no rules, or no such piece
abbrev pub CountsOn : AdapterView → ℕ → Slowing → Bool → Slowing → Type 0
CountsOn view tag old turned new =
    ((asked : Extent) × AsksOn view tag asked × IsCounted old asked turned new)
    ⊎ (((old.rules.items ≡ []) ⊎ HasNoneFresh view tag) × (turned ≡ false) × (new ≡ old))
