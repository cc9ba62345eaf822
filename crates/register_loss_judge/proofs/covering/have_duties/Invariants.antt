use Rattle.std.proofs.Common.{take}
use Rattle.std.specs.Prelude.{All}
use Rattle.register_loss_search.specs.Covering.{HasDuty}
use Rattle.register_loss_judge.proofs.covering.have_duties.Given as goal

-- those so far do
abbrev pub invariant-loop-one : goal.invariant-loop-one
invariant-loop-one l = All (λ x. HasDuty l.others x) (take l.one-index l.waits)
