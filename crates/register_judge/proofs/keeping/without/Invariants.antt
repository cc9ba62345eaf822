use Rattle.std.proofs.Common.{◌≡◌, [], drop}
use Rattle.register_judge.specs.inside.Registers.{without}
use Rattle.register_judge.proofs.keeping.without.Given as goal

abbrev pub invariant-loop-other : goal.invariant-loop-other
invariant-loop-other l = without l.number l.left.items (drop l.other-index l.numbers) ≡ without l.number [] l.numbers
