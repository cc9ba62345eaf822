-- The machines so far.
use Rattle.std.proofs.Common.{◌≡◌}
use Rattle.std.specs.List.{flat_map}
use Rattle.judge.specs.Next.{next}
use Rattle.judge.specs.Views.{rules_of}
use Rattle.judge.proofs.steps.each_next.Given as goal

abbrev pub invariant-loop-machine : goal.invariant-loop-machine
invariant-loop-machine l = l.found.items ≡ flat_map (next (rules_of l.rules) l.told l.label) l.yielded
