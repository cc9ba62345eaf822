use Rattle.std.proofs.Common.{◌≡◌, map, take, drop}
use Rattle.injection.specs.Rules.{behind}
use Rattle.injection.proofs.count.Given as goal

-- the rules so far have counted, and the rest are as they were
abbrev pub invariant-loop-rule : goal.invariant-loop-rule
invariant-loop-rule l = record {
  counted : take l.rule-index l.rules ≡ map (behind l.asked) (take l.rule-index l.fn.rules);
  rest : drop l.rule-index l.rules ≡ drop l.rule-index l.fn.rules;
}
