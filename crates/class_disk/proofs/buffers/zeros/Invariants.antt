use Rattle.std.proofs.Common.{◌≡◌, vec_len}
use Rattle.std.specs.Vec.{vec_capacity}
use Rattle.class_disk.proofs.buffers.zeros.Given as goal

-- as many as were put, and room for all
abbrev pub invariant-loop : goal.invariant-loop
invariant-loop l = record {
  as_many : vec_len l.buffer ≡ l.counter;
  room : vec_capacity l.buffer ≡ l.fn.length;
}
