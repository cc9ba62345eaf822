use Rattle.traced.proofs.Common.{◌≤◌, length, AreEmptyFrom}
use Rattle.traced.proofs.slots.end_below.Given as goal

abbrev pub invariant-loop-left : goal.invariant-loop-left
invariant-loop-left l = record {
  few : l.left ≤ length l.numbers;
  empty : AreEmptyFrom l.left l.numbers;
}

abbrev pub decreases-loop-left : goal.decreases-loop-left
decreases-loop-left l = l.left
