use Rattle.std.proofs.Common.{◌≡◌}
use Rattle.std.specs.VecDeque.{deque_len, deque_capacity}
use Rattle.miniport.proofs.Recording.{so_far}
use Rattle.miniport.proofs.recorded.tell_all.Given as goal

abbrev pub invariant-loop : goal.invariant-loop
invariant-loop l = record {
  labels : l.labels.items ≡ so_far l.fn.slots l.initial.labels.items l.counter;
  many : deque_len l.labels ≡ deque_len l.initial.labels;
  room : deque_capacity l.labels ≡ deque_capacity l.initial.labels;
}
