use Rattle.std.proofs.Common.{◌≡◌, ◌≤◌, All, map, take}
use Rattle.saddlemug.specs.InMemory.{partition_of}
use Rattle.saddlemug.proofs.memory_disk.partitions_of.Given as goal

-- the partitions so far are those that were told so far
abbrev pub invariant-loop-partition : goal.invariant-loop-partition
invariant-loop-partition l = record {
  all : l.partitions.items ≡ map partition_of (take l.partition-index l.told);
  bytes : All (λ p. p.kind ≤ 255) l.partitions.items;
}
