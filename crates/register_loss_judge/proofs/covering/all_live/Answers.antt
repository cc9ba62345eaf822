use Rattle.std.proofs.Common.{subst}
use Rattle.register_loss_judge.specs.inside.Covering.{Lives}
use Rattle.register_loss_judge.proofs.Listing.{all_more, all_taken}
use Rattle.register_loss_judge.proofs.covering.all_live.Goals as goal

pub loop-one-preserved : goal.loop-one-preserved
loop-one-preserved c =
    all_more (λ x. Lives x c.args.values.now) c.args.older.now c.loop-one.one-index c.one-item.result c.loop-one-test.true c.loop-one.invariant
    (subst (λ x. Lives x c.args.values.now) c.one-item.is (c.lives.ensures c.if-not-lives.false))

pub returns : goal.returns
returns c = λ _. all_taken (λ x. Lives x c.args.values.now) c.args.older.now c.loop-one.one-index c.loop-one-test.false c.loop-one.invariant
