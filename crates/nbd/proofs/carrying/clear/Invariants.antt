use Rattle.std.proofs.Common.{◌≡◌, ◌≤◌, ◌-◌, ◌%◌, replicate}
use Rattle.nbd.specs.Content.{written}
use Rattle.nbd.proofs.carrying.clear.Given as goal

abbrev pub invariant-loop-done : goal.invariant-loop-done
invariant-loop-done g l = record {
  within : l.done ≤ l.count;
  whole : l.done % (g.A.Array.content l.fn.array).block ≡ 0;
  cleared : g.A.Array.content l.array ≡ written (g.A.Array.content l.fn.array) l.offset (replicate l.done 0);
}

abbrev pub decreases-loop-done : goal.decreases-loop-done
decreases-loop-done g l = l.count - l.done
