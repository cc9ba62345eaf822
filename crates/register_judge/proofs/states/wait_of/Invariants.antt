use Rattle.std.proofs.Common.{◌≡◌, drop, find}
use Rattle.register_judge.specs.inside.States.{is_number}
use Rattle.register_judge.proofs.states.wait_of.Given as goal

abbrev pub invariant-loop-wait : goal.invariant-loop-wait
invariant-loop-wait l = find (is_number l.number) l.waits ≡ find (is_number l.number) (drop l.wait-index l.waits)
