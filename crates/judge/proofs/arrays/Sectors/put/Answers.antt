use Rattle.judge.proofs.Sparse.{put_in}
use Rattle.judge.proofs.arrays.Sectors.put.Goals as goal

pub returns-clause-put : goal.returns-clause-put
returns-clause-put c =
    put_in c.self.inside.blank.items c.self.inside.count c.self.inside.written c.args.self.now c.self.view_is
    c.max-self-inside.result c.args.number c.insert.new.self c.into_vec.result c.args.sector c.requires c.max-self-inside.ensures
    c.in_ok-insert.ensures.updates.1 c.in_ok-insert.ensures.updates.2 c.into_vec.ensures
