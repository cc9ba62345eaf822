use Rattle.std.proofs.Common.{◌≡◌, ℕ, ◌+◌, ◌/◌, ◌≤◌, ◌<◌}
use Rattle.disk.specs.inside.SparseDisk.{IsThere, Makes, MakesOf}
use Rattle.disk.proofs.chunks.Chunks.reserve.Given as goal

-- the chunks of all sectors before the rest are there
abbrev pub invariant-loop-rest : goal.invariant-loop-rest
invariant-loop-rest l = record {
  begins : l.fn.extent.first ≤ l.rest.first;
  ends : l.rest.first + l.rest.count ≡ l.fn.extent.first + l.fn.extent.count;
  there : (sector : ℕ) → l.fn.extent.first ≤ sector → sector < l.rest.first → IsThere l.self (sector / 64);
  makes : Makes l.initial.self l.self;
  only : MakesOf l.fn.extent l.initial.self l.self;
}

abbrev pub decreases-loop-rest : goal.decreases-loop-rest
decreases-loop-rest l = l.rest.count
