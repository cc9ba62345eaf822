use Rattle.std.proofs.Common.{◌≡◌, map, drop}
use Rattle.ntstatus.specs.First.{first_some}
use Rattle.mbr.specs.Faults.{extent_fault}
use Rattle.mbr.proofs.reading.check.Given as goal

-- a fault of a partition by itself is one of the rest
abbrev pub invariant-loop-partition : goal.invariant-loop-partition
invariant-loop-partition l =
    first_some (map (extent_fault l.sectors) l.partitions) ≡ first_some (map (extent_fault l.sectors) (drop l.partition-index l.partitions))
