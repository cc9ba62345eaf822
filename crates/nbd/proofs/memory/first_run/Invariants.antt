use Rattle.std.proofs.Common.{◌≡◌, ◌≤◌, ◌<◌, ◌-◌, ◌%◌, length, replicate, take}
use Rattle.std.specs.Bool.{OnTrue}
use Rattle.nbd.proofs.memory.first_run.Given as goal

abbrev pub invariant-loop-count : goal.invariant-loop-count
invariant-loop-count l = record {
  some : 0 < l.count;
  within : l.count ≤ length l.blocks;
  aligned : l.count % l.block ≡ 0;
  zeros : OnTrue l.are_zeros (take l.count l.blocks ≡ replicate l.count 0);
}

abbrev pub decreases-loop-count : goal.decreases-loop-count
decreases-loop-count l = length l.blocks - l.count
