use Rattle.mbr.proofs.Entries.{HasFound}
use Rattle.mbr.proofs.reading.partitions.Given as goal

-- the partitions so far are those of the entries so far
abbrev pub invariant-loop-n : goal.invariant-loop-n
invariant-loop-n l = HasFound l.sector l.n l.partitions.items
