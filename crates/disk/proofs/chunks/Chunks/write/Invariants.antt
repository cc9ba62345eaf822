use Rattle.std.proofs.Common.{◌≡◌, ◌+◌, ◌-◌, ◌≤◌}
use Rattle.disk.specs.inside.SparseDisk.{Overwrites}
use Rattle.disk.proofs.chunks.Chunks.write.Given as goal

-- the sectors before the rest are written
abbrev pub invariant-loop-rest : goal.invariant-loop-rest
invariant-loop-rest l = record {
  begins : l.extent.first ≤ l.rest.first;
  ends : l.rest.first + l.rest.count ≡ l.extent.first + l.extent.count;
  wrote : Overwrites (record { first = l.extent.first; count = l.rest.first - l.extent.first }) l.bytes l.initial.self l.self;
}

abbrev pub decreases-loop-rest : goal.decreases-loop-rest
decreases-loop-rest l = l.rest.count
