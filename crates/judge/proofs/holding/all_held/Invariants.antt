-- The requests so far.
use Rattle.std.proofs.Common.{◌≡◌, map}
use Rattle.judge.specs.Views.{held_by}
use Rattle.judge.proofs.holding.all_held.Given as goal

abbrev pub invariant-loop-entry : goal.invariant-loop-entry
invariant-loop-entry l = l.after.items ≡ map (held_by l.window l.numbers) l.yielded
