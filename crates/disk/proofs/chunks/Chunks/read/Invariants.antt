use Rattle.std.proofs.Common.{◌≡◌, ◌+◌, ◌-◌, ◌*◌, ◌≤◌, take}
use Rattle.std.specs.List.{concat}
use Rattle.disk.specs.SparseDisk.{sectors_of}
use Rattle.disk.proofs.chunks.Chunks.read.Given as goal

-- the sectors before the rest are read
abbrev pub invariant-loop-rest : goal.invariant-loop-rest
invariant-loop-rest l = record {
  begins : l.extent.first ≤ l.rest.first;
  ends : l.rest.first + l.rest.count ≡ l.extent.first + l.extent.count;
  done : take ((l.rest.first - l.extent.first) * l.self.sector_size) l.buffer
      ≡ concat (sectors_of l.self (record { first = l.extent.first; count = l.rest.first - l.extent.first }));
}

abbrev pub decreases-loop-rest : goal.decreases-loop-rest
decreases-loop-rest l = l.rest.count
