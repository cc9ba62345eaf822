use Rattle.std.proofs.Common.{◌≡◌, filter, take}
use Rattle.settings.specs.Rules.{slows}
use Rattle.settings.proofs.rules.slowing.Given as goal

-- the rules so far are those of the rules so far that slow commands
abbrev pub invariant-loop-rule : goal.invariant-loop-rule
invariant-loop-rule l = l.slowing.items ≡ filter slows (take l.rule-index l.rules)
