use Rattle.std.specs.Prelude.{All}
use Rattle.serving.specs.inside.Dues.{IsFree}
use Rattle.serving.proofs.beside.slots_for.Given as goal

abbrev pub invariant-loop : goal.invariant-loop
invariant-loop l = All IsFree l.slots.items
