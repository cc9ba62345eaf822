use Rattle.std.proofs.Common.{take}
use Rattle.std.specs.Prelude.{All}
use Rattle.serving.specs.inside.Dues.{IsFree}
use Rattle.serving.proofs.dues.are_free.Given as goal

-- those so far are free
abbrev pub invariant-loop-at : goal.invariant-loop-at
invariant-loop-at l = record { free : All IsFree (take l.at l.slots) }
