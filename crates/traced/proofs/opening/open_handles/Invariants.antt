use Rattle.std.specs.Prelude.{IsFalse}
use Rattle.traced.proofs.Clients.{WereOpened}
use Rattle.traced.proofs.opening.open_handles.Given as goal

abbrev pub invariant-loop-c : goal.invariant-loop-c
invariant-loop-c g l = record {
  opened : WereOpened l.partitions l.c l.handles.items l.initial.stack l.stack;
  apart : IsFalse l.initial.stack.adapter.faithful → IsFalse l.stack.adapter.faithful;
}
