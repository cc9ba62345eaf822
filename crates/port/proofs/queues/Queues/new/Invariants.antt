use Rattle.std.specs.Prelude.{vec_capacity}
use Rattle.std.proofs.Common.{◌≡◌, length}
use Rattle.port.proofs.queues.Queues.new.Given as goal

abbrev pub invariant-loop : goal.invariant-loop
invariant-loop l = record {
  filled : length l.started.items ≡ l.counter;
  exact : vec_capacity l.started ≡ l.sizes.depth;
}
