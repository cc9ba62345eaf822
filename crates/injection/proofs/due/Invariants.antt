use Rattle.std.proofs.Common.{◌≡◌, map, drop}
use Rattle.ntstatus.specs.First.{first_some}
use Rattle.injection.specs.Rules.{kind_if_due}
use Rattle.injection.proofs.due.Given as goal

-- no rule so far is due
abbrev pub invariant-loop-rule : goal.invariant-loop-rule
invariant-loop-rule l = first_some (map (kind_if_due l.asked) l.rules) ≡ first_some (map (kind_if_due l.asked) (drop l.rule-index l.rules))
