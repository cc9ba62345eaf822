-- What the table says of a removal.
use Rattle.std.specs.Prelude.{◌≡◌, Bool, true, false, Some, None, IsTrue}
use Rattle.pnp.specs.declared.State.{State}
use Rattle.pnp.specs.declared.State.TheVariants.{Started, RemovePending, Removing, Removed}
use Rattle.pnp.specs.Table.{Event, Remove, next}

-- the device goes or is gone
abbrev pub is_going : State → Bool
is_going Started = false
is_going RemovePending = false
is_going Removing = true
is_going Removed = true

-- what goes never comes back
abbrev pub RemovalIsForGood : Type 0
RemovalIsForGood = (event : Event) (before after : State) → IsTrue (is_going before) → next event before ≡ Some after
    → IsTrue (is_going after)

-- in the last state nothing is valid
abbrev pub RemovedIsLast : Type 0
RemovedIsLast = (event : Event) → next event Removed ≡ None

-- a removal in order comes only after a query that was granted
abbrev pub RemovesOnceQueried : Type 0
RemovesOnceQueried = (before after : State) → next Remove before ≡ Some after → before ≡ RemovePending
