use Rattle.std.proofs.Common.{◌∙◌}
use Rattle.judge.proofs.Stepping.{chunk_pushed}
use Rattle.judge.proofs.sectors.chunked.Goals as goal

pub loop-preserved : goal.loop-preserved
loop-preserved c =
    chunk_pushed c.args.size c.loop.counter c.args.count c.min.result c.loop.sectors.items c.push.new.self.items _ c.loop.rest.now c.split_at.result.1.now c.new.result
    c.loop-test.true c.min.ensures (c.new.ensures ∙ c.in_ok-from_slice.ensures.items ∙ c.split_at.ensures.front) c.split_at.ensures.back c.in_ok-push.ensures.items c.loop.invariant
