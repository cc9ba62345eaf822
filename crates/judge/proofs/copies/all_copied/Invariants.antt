-- The items so far.
use Rattle.std.proofs.Common.{◌≡◌, take}
use Rattle.judge.proofs.copies.all_copied.Given as goal

abbrev pub invariant-loop-item : goal.invariant-loop-item
invariant-loop-item g l = l.copy.items ≡ take l.item-index l.items
