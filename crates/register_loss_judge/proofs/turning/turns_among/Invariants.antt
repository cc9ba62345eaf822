use Rattle.std.proofs.Common.{◌≡◌, [], drop}
use Rattle.register_loss_judge.specs.inside.States.{form, forms, turns_onto}
use Rattle.register_loss_judge.proofs.turning.turns_among.Given as goal

abbrev pub invariant-loop-of : goal.invariant-loop-of
invariant-loop-of l = turns_onto (form l.state) (forms l.turns.items) (drop l.of-index l.waits) ≡ turns_onto (form l.state) [] l.waits
