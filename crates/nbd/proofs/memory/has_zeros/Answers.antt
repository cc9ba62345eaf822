use Rattle.nbd.proofs.Zeros.{zeros_there}
use Rattle.nbd.proofs.memory.has_zeros.Goals as goal

pub returns : goal.returns
returns c = zeros_there c.args.blocks.now c.args.first c.args.block _ c.requires c.are_zeros.ensures
