use Rattle.std.proofs.Common.{◌≡◌, ◌++◌, map, take}
use Rattle.sector_judge.specs.inside.Lists.{outdated}
use Rattle.sector_judge.proofs.candidates.add_outdated.Given as goal

-- those so far were added
abbrev pub invariant-loop-candidate : goal.invariant-loop-candidate
invariant-loop-candidate l = l.older.items ≡ l.fn.older.items ++ map (outdated l.next) (take l.candidate-index l.candidates)
