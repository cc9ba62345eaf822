use Rattle.book.proofs.Common.{◌≡◌, ◌≤◌, None, replicate, vec_len, vec_capacity}
use Rattle.book.proofs.tags.Tags.new.Given as goal

abbrev pub invariant-loop : goal.invariant-loop
invariant-loop g l = record {
  empty : l.tags.items ≡ replicate l.counter None;
  as_many : vec_len l.tags ≡ l.counter;
  room : l.fn.depth ≤ vec_capacity l.tags;
}
