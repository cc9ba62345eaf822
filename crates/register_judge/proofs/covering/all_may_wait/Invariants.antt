use Rattle.std.proofs.Common.{◌≡◌, true, take}
use Rattle.std.specs.Prelude.{All}
use Rattle.register_judge.specs.inside.Covering.{may_wait}
use Rattle.register_judge.proofs.covering.all_may_wait.Given as goal

-- those so far may wait
abbrev pub invariant-loop-wait : goal.invariant-loop-wait
invariant-loop-wait l = All (λ wait. may_wait l.others wait ≡ true) (take l.wait-index l.waits)
