use Rattle.std.proofs.Common.{◌∙◌}
use Rattle.std.proofs.lemmas.List.{take_all}
use Rattle.history_judge.proofs.Celling.{new_more}
use Rattle.history_judge.proofs.trying.new_tries.Goals as goal

pub loop-start-preserved : goal.loop-start-preserved
loop-start-preserved c =
    new_more c.args.starts.now c.loop-start.tries.items c.push.new.self.items c.loop-start.start-index c.start-item.result c.in_ok-next.next c.loop-start-test.true c.in_ok-push.ensures.items
    (c.in_ok-next.ensures.start ∙ c.start-item.is) c.in_ok-next.ensures.seen c.loop-start.invariant

pub returns : goal.returns
returns c = record {
  starts = c.loop-start.invariant.0 ∙ take_all c.loop-start.start-index c.args.starts.now c.loop-start-test.false;
  seen = c.loop-start.invariant.1;
}
