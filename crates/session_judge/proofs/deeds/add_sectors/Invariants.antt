use Rattle.std.proofs.Common.{◌≡◌, ◌++◌}
use Rattle.session_judge.specs.Deeds.{below, deed_at}
use Rattle.session_judge.proofs.deeds.add_sectors.Given as goal

-- those so far were added
abbrev pub invariant-loop-k : goal.invariant-loop-k
invariant-loop-k l = l.deeds.items ≡ l.fn.deeds.items ++ below (deed_at l.moved.way l.moved.size l.moved.extent l.bytes) l.k
