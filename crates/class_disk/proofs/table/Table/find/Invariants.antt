use Rattle.std.proofs.Common.{◌≡◌, ℕ, Some}
use Rattle.std.specs.Prelude.{All, Contains}
use Rattle.class_disk.proofs.Common.{get, Slot, open_from, CannotCancel}
use Rattle.class_disk.proofs.Cancelling.{open_entries}
use Rattle.class_disk.proofs.table.Table.find.Given as goal

-- what is left are entries of the slots; where none of them can be cancelled, no open request can
abbrev pub invariant-loop-key : goal.invariant-loop-key
invariant-loop-key l =
    (goal.iterator-loop-key).can_next l.key-iterator ×
    (goal.iterator-loop-key).is_finite l.key-iterator ×
    ((key : ℕ) (x : Slot) → Contains l.key-iterator (key, x) → get l.self.slots key ≡ Some x) ×
    (All (CannotCancel l.number) (open_entries l.key-iterator) → All (CannotCancel l.number) (open_from 0 l.self.slots.slots))
