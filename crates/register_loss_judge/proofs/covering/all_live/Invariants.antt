use Rattle.std.proofs.Common.{take}
use Rattle.std.specs.Prelude.{All}
use Rattle.register_loss_judge.specs.inside.Covering.{Lives}
use Rattle.register_loss_judge.proofs.covering.all_live.Given as goal

-- those so far do
abbrev pub invariant-loop-one : goal.invariant-loop-one
invariant-loop-one l = All (λ x. Lives x l.values) (take l.one-index l.older)
