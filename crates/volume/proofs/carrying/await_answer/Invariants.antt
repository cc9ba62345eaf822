use Rattle.volume.specs.Working.{Looks}
use Rattle.volume.proofs.Going.{looks_left}
use Rattle.volume.proofs.carrying.await_answer.Given as goal

abbrev pub invariant-waiting : goal.invariant-waiting
invariant-waiting g l = Looks l.fn.stack l.answer l.stack

-- to how many commands the rules may still do something, while there is no answer
abbrev pub decreases-waiting : goal.decreases-waiting
decreases-waiting g l = looks_left l.answer l.slowing.rules.items
