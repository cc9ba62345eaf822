use Rattle.std.proofs.Common.{◌≡◌, ◌≤◌, None, replicate, vec_len}
use Rattle.std.specs.Vec.{vec_capacity}
use Rattle.saddlemug.proofs.places.no_places.Given as goal

abbrev pub invariant-loop : goal.invariant-loop
invariant-loop l = record {
  empty : l.places.items ≡ replicate l.counter None;
  as_many : vec_len l.places ≡ l.counter;
  room : 256 ≤ vec_capacity l.places;
}
