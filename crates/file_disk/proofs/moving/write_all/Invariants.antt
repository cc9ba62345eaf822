use Rattle.std.proofs.Common.{◌≤◌, ◌-◌, length}
use Rattle.file_disk.specs.Calls.{Since, Writes}
use Rattle.file_disk.proofs.moving.write_all.Given as goal

abbrev pub invariant-loop-done : goal.invariant-loop-done
invariant-loop-done g l = record {
  within : l.done ≤ length l.bytes;
  writes : Since (g.S.Storage.calls l.fn.storage) (g.S.Storage.calls l.storage) (Writes l.offset l.bytes l.done);
}

abbrev pub decreases-loop-done : goal.decreases-loop-done
decreases-loop-done g l = length l.bytes - l.done
