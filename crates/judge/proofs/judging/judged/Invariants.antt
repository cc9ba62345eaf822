-- What the labels so far lead to.
use Rattle.judge.specs.Views.{rules_of}
use Rattle.judge.proofs.Judged.{ReachedSome}
use Rattle.judge.proofs.judging.judged.Given as goal

abbrev pub invariant-loop-at : goal.invariant-loop-at
invariant-loop-at l = ReachedSome (rules_of l.rules) l.fn.arrays.items l.labels l.at l.machines.items
