use Rattle.history_judge.proofs.Celling.{IsFrontTo}
use Rattle.history_judge.proofs.waits.known_front.Given as goal

-- those so far are known
abbrev pub invariant-loop-marked : goal.invariant-loop-marked
invariant-loop-marked l = IsFrontTo l.waits l.marked-index l.given.items
