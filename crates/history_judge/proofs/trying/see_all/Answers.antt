use Rattle.history_judge.proofs.Celling.{all_see_none, all_see_next, all_see_all}
use Rattle.history_judge.proofs.trying.see_all.Goals as goal

pub loop-one-init : goal.loop-one-init
loop-one-init c = all_see_none c.args.tries.now.items

pub loop-one-preserved : goal.loop-one-preserved
loop-one-preserved c =
    all_see_next c.args.given.now c.loop-one.one-index c.one-item.result c.args.tries.now.items c.loop-one.tries.items c.each_sees.new.tries.items c.loop-one-test.true c.one-item.is c.loop-one.invariant c.in_ok-each_sees.ensures

pub returns : goal.returns
returns c = all_see_all c.args.given.now c.loop-one.one-index c.args.tries.now.items c.loop-one.tries.items c.loop-one-test.false c.loop-one.invariant
