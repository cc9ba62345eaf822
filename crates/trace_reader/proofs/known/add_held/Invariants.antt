use Rattle.std.proofs.Common.{◌≡◌, ◌++◌}
use Rattle.trace_reader.specs.Known.{held_below}
use Rattle.trace_reader.proofs.known.add_held.Given as goal

-- those so far were added
abbrev pub invariant-loop-k : goal.invariant-loop-k
invariant-loop-k l = l.moved.items ≡ l.fn.moved.items ++ held_below l.sectors l.owner l.piece l.k
