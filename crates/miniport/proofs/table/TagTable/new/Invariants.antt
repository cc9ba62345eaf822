use Rattle.std.proofs.Common.{◌≡◌, ◌≤◌, None, replicate, vec_len}
use Rattle.std.specs.Vec.{vec_capacity}
use Rattle.miniport.proofs.table.TagTable.new.Given as goal

abbrev pub invariant-loop : goal.invariant-loop
invariant-loop l = record {
  empty : l.slots.items ≡ replicate l.counter None;
  as_many : vec_len l.slots ≡ l.counter;
  room : l.fn.depth ≤ vec_capacity l.slots;
}
