use Rattle.std.proofs.Common.{◌-◌, arith}
use Rattle.nbd.proofs.Streaming.{skips_more}
use Rattle.nbd.proofs.streams.skip.Goals as goal

pub loop-left-preserved : goal.loop-left-preserved
loop-left-preserved g c = record {
  few = omega arith;
  skipped = skips_more _ _ _ (c.args.count - c.loop-left.left) c.min-piece.result _ (omega arith) c.loop-left.invariant.skipped c.in_ok-skip_piece.ensures.taken;
}
