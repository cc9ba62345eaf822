use Rattle.std.proofs.Common.{◌<◌, length, arith}
use Rattle.injection.specs.Rules.{behind}
use Rattle.injection.proofs.Counting.{left_more, taken_more}
use Rattle.injection.proofs.count.Goals as goal

pub loop-rule-preserved : goal.loop-rule-preserved
loop-rule-preserved c =
    let i = c.loop-rule.rule-index in
    let now = c.loop-rule.rules in
    let lt : i < length now = omega arith in
    record {
      counted = taken_more (behind c.args.asked) c.args.rules.now now i _ c.behind.result lt c.loop-rule.invariant.rest c.behind.ensures c.loop-rule.invariant.counted;
      rest = left_more (behind c.args.asked) c.args.rules.now now i _ c.behind.result lt c.loop-rule.invariant.rest c.behind.ensures;
    }
