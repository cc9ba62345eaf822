use Rattle.judge.proofs.Sparse.{length_is}
use Rattle.judge.proofs.arrays.Sectors.len.Goals as goal

pub returns : goal.returns
returns c = length_is c.self.inside.blank.items c.self.inside.count c.self.inside.written c.args.self.now c.self.view_is
