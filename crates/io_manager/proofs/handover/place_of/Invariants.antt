use Rattle.io_manager.proofs.Common.{take, IsOfAnother}
use Rattle.std.specs.Prelude.{All}
use Rattle.io_manager.proofs.handover.place_of.Given as goal

abbrev pub invariant-loop-at : goal.invariant-loop-at
invariant-loop-at l = record { others : All (IsOfAnother l.number) (take l.at l.answers.items) }
