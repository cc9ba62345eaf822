use Rattle.std.proofs.Common.{◌≡◌, ◌≤◌, ◌-◌, length, take}
use Rattle.file_disk.specs.Calls.{Reads, Since}
use Rattle.file_disk.proofs.moving.read_all.Given as goal

abbrev pub invariant-loop-done : goal.invariant-loop-done
invariant-loop-done g l = record {
  long : length l.buffer ≡ length l.fn.buffer;
  within : l.done ≤ length l.fn.buffer;
  reads : Since (g.S.Storage.calls l.fn.storage) (g.S.Storage.calls l.storage) (Reads l.offset (length l.fn.buffer) (take l.done l.buffer));
}

abbrev pub decreases-loop-done : goal.decreases-loop-done
decreases-loop-done g l = length l.fn.buffer - l.done
