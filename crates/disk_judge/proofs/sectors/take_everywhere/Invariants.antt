use Rattle.disk_judge.specs.inside.One.{HaveTaken}
use Rattle.disk_judge.proofs.sectors.take_everywhere.Given as goal

-- those so far have taken it
abbrev pub invariant-loop-sector : goal.invariant-loop-sector
invariant-loop-sector l = HaveTaken l.sector l.event l.fn.sectors.items l.sectors.items
