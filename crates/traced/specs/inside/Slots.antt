-- The slots of open requests, and the marks of their cancellation.
use Rattle.std.specs.Prelude.{◌≡◌, ◌<◌, ◌≤◌, ℕ, ◌==◌, List, Option, Some, None, slice_index_or, if◌then◌else◌}
use Rattle.cancel_marks.specs.declared.rule.View.{View}
use Rattle.cancel_marks.specs.Marks.{slot_at}
use Rattle.traced.specs.Slots.{IsArmedAs}

-- the numbers of the open requests, by slot, and what the owner of the marks knows of them
pub record SlotsView : Type 0 where
  pub numbers : List (Option ℕ)
  pub owner : View

-- the number in a slot
abbrev pub number_at : List (Option ℕ) → ℕ → Option ℕ
number_at numbers k = slice_index_or numbers k None

-- each slot is armed with the number of the open request there
abbrev pub AreArmed : List (Option ℕ) → View → Type 0
AreArmed numbers owner = (k : ℕ) → IsArmedAs (slot_at owner k) (number_at numbers k)

-- all numbers that a slot was armed with are below this one
abbrev pub ArmedBelow : ℕ → View → Type 0
ArmedBelow next owner = (k : ℕ) → (slot_at owner k).last < next

-- what a slot has, unless it is this number
abbrev pub unless_number : ℕ → Option ℕ → Option ℕ
unless_number number None = None
unless_number number (Some other) = if other == number then None else Some other

-- the request of this number leaves its slot, and those of others stay
abbrev pub Leaves : ℕ → List (Option ℕ) → List (Option ℕ) → Type 0
Leaves number old new = (k : ℕ) → number_at new k ≡ unless_number number (number_at old k)

-- no slot from this one on has a number
abbrev pub AreEmptyFrom : ℕ → List (Option ℕ) → Type 0
AreEmptyFrom end numbers = (k : ℕ) → end ≤ k → number_at numbers k ≡ None
