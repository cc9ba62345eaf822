use Rattle.std.proofs.Common.{◌≡◌, map, take}
use Rattle.settings.specs.Medium.{extent_of}
use Rattle.referee.proofs.opening.extents.Given as goal

abbrev pub invariant-loop-partition : goal.invariant-loop-partition
invariant-loop-partition l = l.extents.items ≡ map extent_of (take l.partition-index l.partitions)
