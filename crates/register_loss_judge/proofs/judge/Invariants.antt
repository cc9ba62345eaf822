use Rattle.std.proofs.Common.{◌≡◌, [], take}
use Rattle.register_loss_search.proofs.Searching.{IsExact}
use Rattle.register_loss_judge.specs.inside.States.{forms}
use Rattle.register_loss_judge.proofs.judge.Given as goal

-- the register has the states behind the schedules of the sights so far, and there are some
abbrev pub invariant-loop-index : goal.invariant-loop-index
invariant-loop-index l = IsExact l.start (take l.index l.sights) (forms l.states.items) × (forms l.states.items ≡ [] → ⊥)
