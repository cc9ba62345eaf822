-- What the rule of a table of marks says, in each state that meets it, and so between any two steps.
use Rattle.std.specs.Prelude.{◌≡◌, ◌↔◌, ℕ, ◌+◌, ◌*◌, ◌<◌, true, false, List, length, slice_index}
use mathlib.Core.Option.{some}
use lib.ListN.{get_elem?}
use Rattle.cancel_marks.specs.declared.rule.View.{View}
use Rattle.cancel_marks.specs.Marks.{MarksKept, has, listed, slot_at}

-- the slot k is armed with the number
abbrev pub IsArmedWith : View → ℕ → ℕ → Type 0
IsArmedWith owner k number = ((slot_at owner k).armed ≡ true) × ((slot_at owner k).last ≡ number)

-- A slot's word is twice a number exactly where the slot is armed with it and no seat has marked it
abbrev pub EvenIsUnmarked : Type 0
EvenIsUnmarked =
    (words : List ℕ) (views : List View) (owner : View) → MarksKept words views → get_elem? views 0 ≡ some owner
    → (k number : ℕ) → k < length words → 0 < number
    → (slice_index words k ≡ 2 * number) ↔ (IsArmedWith owner k number × (listed k number views ≡ false))

-- It is one more exactly where the slot is armed with the number and some seat has marked it
abbrev pub OddIsMarked : Type 0
OddIsMarked =
    (words : List ℕ) (views : List View) (owner : View) → MarksKept words views → get_elem? views 0 ≡ some owner
    → (k number : ℕ) → k < length words → 0 < number
    → (slice_index words k ≡ 2 * number + 1) ↔ (IsArmedWith owner k number × (listed k number views ≡ true))

-- A mark that a look ever saw was made: some seat lists it, also after the slot was retired or armed again
abbrev pub SeenWasMade : Type 0
SeenWasMade =
    (words : List ℕ) (views : List View) (owner : View) → MarksKept words views → get_elem? views 0 ≡ some owner
    → (k number : ℕ) → has k number owner.seen ≡ true → listed k number views ≡ true
