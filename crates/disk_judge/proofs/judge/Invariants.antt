use Rattle.std.proofs.Common.{take}
use Rattle.disk_judge.proofs.Taking.{AreKnown}
use Rattle.disk_judge.proofs.judge.Given as goal

-- the sectors are known by what happened so far
abbrev pub invariant-loop-index : goal.invariant-loop-index
invariant-loop-index l = AreKnown l.count (take l.index l.happenings) l.disk
