use Rattle.std.proofs.Common.{◌≡◌, replicate}
use Rattle.sector_judge.specs.Known.{nothing_known}
use Rattle.disk_judge.proofs.Disk.new.Given as goal

-- nothing is known of those so far
abbrev pub invariant-loop : goal.invariant-loop
invariant-loop l = l.sectors.items ≡ replicate l.counter nothing_known
