-- What the rule of a gate says, in each state that meets it, and so between any two steps.
use Rattle.std.specs.Prelude.{◌≡◌, ◌↔◌, ℕ, true, false, List, [], ◌∷◌}
use mathlib.Core.Option.{some}
use lib.ListN.{get_elem?}
use Rattle.remove_lock.specs.declared.rule.View.{View}
use Rattle.remove_lock.specs.Gate.{GateKept, IsOpen, any_closed, load, total}

-- The word is even exactly where no pass has closed the gate
abbrev pub EvenIsOpen : Type 0
EvenIsOpen = (n : ℕ) (views : List View) → GateKept (n ∷ []) views → IsOpen n ↔ (any_closed views ≡ false)

-- The word is 1 exactly where the gate is closed, with no hold and no refused hold still to be taken back
abbrev pub OneIsDrained : Type 0
OneIsDrained = (n : ℕ) (views : List View) → GateKept (n ∷ []) views → (n ≡ 1) ↔ ((any_closed views ≡ true) × (total load views ≡ 0))

-- From the look of one pass that found the gate drained on, no pass has a hold
abbrev pub DrainedForGood : Type 0
DrainedForGood =
    (words : List ℕ) (views : List View) → GateKept words views
    → (by : ℕ) (v : View) → get_elem? views by ≡ some v → v.saw_drained ≡ true
    → (other : ℕ) (w : View) → get_elem? views other ≡ some w → w.holds ≡ 0
