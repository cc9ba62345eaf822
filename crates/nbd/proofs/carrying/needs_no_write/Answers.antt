use Rattle.nbd.proofs.Clearing.{standing_if}
use Rattle.nbd.proofs.carrying.needs_no_write.Goals as goal

pub returns-clause-there : goal.returns-clause-there
returns-clause-there g c =
    standing_if (g.A.Array.content c.args.array.now) c.args.offset c.args.bytes.now c.stand_there.result c.requires.in_bounds.inside c.stand_there.ensures.there
