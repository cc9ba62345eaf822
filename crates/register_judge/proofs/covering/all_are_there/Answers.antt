use Rattle.std.proofs.Common.{◌≡◌, true, sym, ◌∙◌, subst}
use Rattle.register_judge.specs.inside.Covering.{is_there}
use Rattle.register_judge.proofs.Pruning.{all_more, all_taken}
use Rattle.register_judge.proofs.covering.all_are_there.Goals as goal

pub loop-other-preserved : goal.loop-other-preserved
loop-other-preserved c =
    all_more (λ other. is_there c.args.waits.now other ≡ true) c.args.others.now c.loop-other.other-index c.other-item.result c.loop-other-test.true c.loop-other.invariant
    (subst (λ other. is_there c.args.waits.now other ≡ true) c.other-item.is (sym c.is_there.ensures ∙ c.if-not-is_there.false))

pub returns : goal.returns
returns c = λ _. all_taken (λ other. is_there c.args.waits.now other ≡ true) c.args.others.now c.loop-other.other-index c.loop-other-test.false c.loop-other.invariant
