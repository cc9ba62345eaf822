use Rattle.judge.proofs.Sparse.{at_blank, at_written}
use Rattle.judge.proofs.arrays.Sectors.at.Goals as goal

pub returns-in-Some : goal.returns-in-Some
returns-in-Some c =
    at_written c.self.inside.blank.items c.self.inside.count c.self.inside.written c.args.self.now c.self.view_is c.args.number c.requires c.as_slice.result.now
    c.in-Some.bytes.now c.in-Some.ensures.value c.as_slice.ensures.value

pub returns-in-None : goal.returns-in-None
returns-in-None c =
    at_blank c.self.inside.blank.items c.self.inside.count c.self.inside.written c.args.self.now c.self.view_is c.args.number c.requires c.as_slice-in-None.result.now
    c.in-None.ensures.value c.as_slice-in-None.ensures.value
