use Rattle.std.proofs.Common.{[], sym, subst}
use Rattle.history_judge.specs.inside.Cells.{AllSee}
use Rattle.history_judge.proofs.Celling.{all_see_none, copied_more, copied_all}
use Rattle.history_judge.proofs.trying.copies.Goals as goal

pub loop-one-init : goal.loop-one-init
loop-one-init c = subst (AllSee [] []) (sym c.new-all.ensures.items) (all_see_none [])

pub loop-one-preserved : goal.loop-one-preserved
loop-one-preserved c =
    copied_more c.args.tries.now c.loop-one.all.items c.push.new.self.items c.loop-one.one-index c.one-item.result c.in_ok-copy.field-0 c.loop-one-test.true c.one-item.is c.in_ok-push.ensures.items c.in_ok-copy.ensures c.loop-one.invariant

pub returns : goal.returns
returns c = copied_all c.args.tries.now c.loop-one.all.items c.loop-one.one-index c.loop-one-test.false c.loop-one.invariant
