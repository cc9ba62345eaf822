use Rattle.history_judge.proofs.Celling.{known_more, known_whole}
use Rattle.history_judge.proofs.waits.known_of.Goals as goal

pub loop-marked-preserved : goal.loop-marked-preserved
loop-marked-preserved c =
    known_more c.args.waits.now c.loop-marked.given.items c.push_known.new.given.items c.loop-marked.marked-index c.marked-item.result c.loop-marked-test.true c.marked-item.is c.in_ok-push_known.ensures c.loop-marked.invariant

pub returns : goal.returns
returns c = known_whole c.args.waits.now c.loop-marked.given.items c.loop-marked.marked-index c.loop-marked-test.false c.loop-marked.invariant
