use Rattle.std.proofs.Common.{◌≡◌, Some, take}
use Rattle.sector_judge.specs.Known.{judged, nothing_known}
use Rattle.sector_judge.proofs.judge.Given as goal

-- what is known behind the events so far
abbrev pub invariant-loop-index : goal.invariant-loop-index
invariant-loop-index l = judged nothing_known (take l.index l.events) ≡ Some l.known
