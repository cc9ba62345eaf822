use Rattle.std.proofs.Common.{◌≡◌, ◌≤◌, ◌+◌, All, length, vec_capacity}
use Rattle.sector_journal.specs.inside.Pooling.{IsOfLength}
use Rattle.sector_journal.proofs.size_class.fill.Given as goal

abbrev pub invariant-loop : goal.invariant-loop
invariant-loop l = record {
  long : All (λ buffer. IsOfLength buffer l.fn.long) l.free.items;
  made : length l.free.items ≡ length l.initial.free.items + l.counter;
  places : vec_capacity l.initial.free ≤ vec_capacity l.free;
}
