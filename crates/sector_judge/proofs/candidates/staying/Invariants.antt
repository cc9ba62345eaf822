use Rattle.std.proofs.Common.{◌≡◌, take}
use Rattle.std.specs.List.{filter}
use Rattle.sector_judge.specs.inside.Lists.{stays}
use Rattle.sector_judge.proofs.candidates.staying.Given as goal

-- those so far that stay are there
abbrev pub invariant-loop-one : goal.invariant-loop-one
invariant-loop-one l = l.kept.items ≡ filter (stays l.flush) (take l.one-index l.older)
