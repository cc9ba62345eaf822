use Rattle.std.proofs.Common.{arith}
use Rattle.nbd.proofs.Zeros.{block_fits, more_zeros, same_by}
use Rattle.nbd.proofs.memory.first_run.Goals as goal

pub loop-count-preserved : goal.loop-count-preserved
loop-count-preserved c =
    let i = c.loop-count.invariant in
    let fits = block_fits c.args.block c.loop-count.count _ c.requires.block c.requires.aligned i.aligned c.loop-count-test.true in
    record {
      some = omega arith;
      within = fits.0;
      aligned = fits.1;
      zeros = more_zeros c.args.blocks.now c.loop-count.count c.args.block _ _ (same_by _ _ c.if-has_zeros-are_zeros.false) i.within i.zeros c.has_zeros.ensures;
    }
