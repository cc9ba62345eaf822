use Rattle.serving.proofs.Common.{◌≡◌, ◌≤◌, ◌-◌, length, map, take, extent_of}
use Rattle.serving.proofs.on_disk.compare.Given as goal

-- so far each is that of its partition
abbrev pub invariant-loop-index : goal.invariant-loop-index
invariant-loop-index l = record {
  within : l.index ≤ length l.partitions;
  long : length l.extents ≡ length l.partitions;
  same : take l.index l.extents ≡ map extent_of (take l.index l.partitions);
}

abbrev pub decreases-loop-index : goal.decreases-loop-index
decreases-loop-index l = length l.partitions - l.index
