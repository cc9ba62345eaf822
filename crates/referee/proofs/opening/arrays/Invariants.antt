use Rattle.std.proofs.Common.{◌≡◌, map, take}
use Rattle.settings.specs.Medium.{extent_of, zeros}
use Rattle.referee.proofs.opening.arrays.Given as goal

abbrev pub invariant-loop-partition : goal.invariant-loop-partition
invariant-loop-partition l = l.arrays.items ≡ map (λ extent. zeros l.config extent.count) (map extent_of (take l.partition-index l.partitions))
