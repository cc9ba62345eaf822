use Rattle.std.proofs.Common.{◌≡◌, true, take}
use Rattle.std.specs.Prelude.{All}
use Rattle.register_judge.specs.inside.Covering.{is_there}
use Rattle.register_judge.proofs.covering.all_are_there.Given as goal

-- those so far are there
abbrev pub invariant-loop-other : goal.invariant-loop-other
invariant-loop-other l = All (λ other. is_there l.waits other ≡ true) (take l.other-index l.others)
