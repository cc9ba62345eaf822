use Rattle.std.proofs.Common.{◌≡◌, ◌++◌, map, take}
use Rattle.sector_judge.specs.inside.Lists.{older_value}
use Rattle.sector_judge.proofs.candidates.add_values.Given as goal

-- those so far were added
abbrev pub invariant-loop-one : goal.invariant-loop-one
invariant-loop-one l = l.candidates.items ≡ l.fn.candidates.items ++ map older_value (take l.one-index l.older)
