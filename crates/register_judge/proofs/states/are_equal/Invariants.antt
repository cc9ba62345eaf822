use Rattle.std.proofs.Common.{◌≡◌, length, drop}
use Rattle.register_judge.proofs.states.are_equal.Given as goal

abbrev pub invariant-loop-index : goal.invariant-loop-index
invariant-loop-index l = (length l.a ≡ length l.b) × (drop l.index l.a ≡ drop l.index l.b → l.a ≡ l.b)
