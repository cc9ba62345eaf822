use Rattle.std.proofs.Common.{◌∙◌, sym}
use Rattle.history_judge.proofs.Celling.{front_more, front_of}
use Rattle.history_judge.proofs.waits.known_front.Goals as goal

pub returns-then-not-is_known : goal.returns-then-not-is_known
returns-then-not-is_known c = front_of c.args.waits.now c.loop-marked.given.items c.loop-marked.marked-index c.loop-marked.invariant

pub loop-marked-preserved : goal.loop-marked-preserved
loop-marked-preserved c =
    front_more c.args.waits.now c.loop-marked.given.items c.push_known.new.given.items c.loop-marked.marked-index c.marked-item.result c.loop-marked-test.true c.marked-item.is
    (sym c.is_known.ensures ∙ c.if-not-is_known.false) c.in_ok-push_known.ensures c.loop-marked.invariant

pub returns : goal.returns
returns c = front_of c.args.waits.now c.loop-marked.given.items c.loop-marked.marked-index c.loop-marked.invariant
