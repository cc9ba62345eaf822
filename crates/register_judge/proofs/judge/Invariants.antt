use Rattle.std.proofs.Common.{take}
use Rattle.register_judge.proofs.Judging.{IsExact}
use Rattle.register_judge.proofs.judge.Given as goal

-- the register has the states after the schedules of the sights so far
abbrev pub invariant-loop-index : goal.invariant-loop-index
invariant-loop-index l = IsExact l.start l.register (take l.index l.sights)
