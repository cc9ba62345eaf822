use Rattle.std.proofs.Common.{◌≡◌, ◌≤◌, ◌+◌, ◌++◌, map, length}
use Rattle.io_manager.proofs.Common.{deque_capacity, as_answer}
use Rattle.io_manager.proofs.completion.move_answers.Given as goal

abbrev pub invariant-loop-answer : goal.invariant-loop-answer
invariant-loop-answer l = record {
  moved : l.labels.items ++ map as_answer l.answered.items ≡ l.initial.labels.items ++ map as_answer l.initial.answered.items;
  room : length l.labels.items + length l.answered.items ≤ deque_capacity l.labels;
  label_places : deque_capacity l.labels ≡ deque_capacity l.initial.labels;
  answer_places : deque_capacity l.answered ≡ deque_capacity l.initial.answered;
}

abbrev pub decreases-loop-answer : goal.decreases-loop-answer
decreases-loop-answer l = length l.answered.items
