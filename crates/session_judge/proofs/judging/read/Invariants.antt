use Rattle.std.proofs.Common.{take}
use Rattle.judge.specs.Views.{rules_of}
use Rattle.session_judge.specs.inside.Walking.{HasWalked}
use Rattle.session_judge.proofs.judging.read.Given as goal

-- those so far were walked
abbrev pub invariant-loop-count : goal.invariant-loop-count
invariant-loop-count l = HasWalked (rules_of l.rules) (take l.count l.lines) l.walk
