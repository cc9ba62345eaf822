use Rattle.std.proofs.Common.{take}
use Rattle.std.specs.Prelude.{All}
use Rattle.loss.specs.Held.{IsOneOf}
use Rattle.register_loss_judge.proofs.covering.gives_all.Given as goal

-- those so far do
abbrev pub invariant-loop-value : goal.invariant-loop-value
invariant-loop-value l = All (λ x. IsOneOf x l.now) (take l.value-index l.values)
