use Rattle.std.proofs.Common.{take}
use Rattle.std.specs.Prelude.{All}
use Rattle.register_loss_search.specs.Covering.{HasTurn}
use Rattle.register_loss_judge.proofs.covering.have_turns.Given as goal

-- those so far do
abbrev pub invariant-loop-other : goal.invariant-loop-other
invariant-loop-other l = All (λ x. HasTurn l.waits x) (take l.other-index l.others)
