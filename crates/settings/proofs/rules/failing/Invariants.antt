use Rattle.std.proofs.Common.{◌≡◌, filter, take}
use Rattle.settings.specs.Rules.{fails}
use Rattle.settings.proofs.rules.failing.Given as goal

-- the rules so far are those of the rules so far that fail commands
abbrev pub invariant-loop-rule : goal.invariant-loop-rule
invariant-loop-rule l = l.failing.items ≡ filter fails (take l.rule-index l.rules)
