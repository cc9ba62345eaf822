use Rattle.std.proofs.Common.{◌≡◌, ◌++◌}
use Rattle.session_judge.proofs.walk.append.Given as goal

-- those so far were added
abbrev pub invariant-loop-deed : goal.invariant-loop-deed
invariant-loop-deed l = l.deeds.items ≡ l.fn.deeds.items ++ l.yielded
