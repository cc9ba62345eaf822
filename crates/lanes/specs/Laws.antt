-- What the rule of the queue says, in each state that meets it, and so between any two steps.
use Rattle.std.specs.Prelude.{◌≡◌, ℕ, suc, Some, List, ◌++◌, slice_get}
use mathlib.Core.Option.{some}
use lib.ListN.{get_elem?}
use Rattle.lanes.specs.declared.rule.Item.{Item}
use Rattle.lanes.specs.declared.rule.View.{View}
use Rattle.lanes.specs.Queue.{QueueKept, item_of, part}

-- What was taken of a lane, then what the queue holds of it, is what that lane put: no item is lost, made up, or taken twice
abbrev pub TakenIsPut : Type 0
TakenIsPut =
    (items : List Item) (views : List View) (worker lane : View) (t : ℕ) → QueueKept items views → get_elem? views 0 ≡ some worker → get_elem? views (suc t) ≡ some lane
    → part t worker.taken ++ part t items ≡ lane.put

-- The nth item of a tag that the worker took has the count n, for n from 0
abbrev pub InOrder : Type 0
InOrder =
    (items : List Item) (views : List View) (worker : View) (t n : ℕ) (x : Item) → QueueKept items views → get_elem? views 0 ≡ some worker
    → slice_get (part t worker.taken) n ≡ Some x → x ≡ item_of t n
