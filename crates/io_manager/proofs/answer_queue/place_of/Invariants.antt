use Rattle.std.proofs.Common.{◌≤◌, length}
use Rattle.io_manager.specs.inside.Ordering.{lower_first}
use Rattle.io_manager.proofs.answer_queue.place_of.Given as goal

abbrev pub invariant-loop-place : goal.invariant-loop-place
invariant-loop-place l = record {
  within : l.place ≤ length l.answers.items;
  not_lower : lower_first l.number l.answers.items ≤ l.place;
}

abbrev pub decreases-loop-place : goal.decreases-loop-place
decreases-loop-place l = l.place
