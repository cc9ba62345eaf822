use Rattle.std.proofs.Common.{◌≡◌, drop}
use Rattle.register_judge.specs.inside.States.{turns_onto}
use Rattle.register_judge.proofs.states.add_turns.Given as goal

abbrev pub invariant-loop-wait : goal.invariant-loop-wait
invariant-loop-wait l = turns_onto l.how l.of l.turns.items (drop l.wait-index l.waits) ≡ turns_onto l.how l.of l.fn.turns.items l.waits
