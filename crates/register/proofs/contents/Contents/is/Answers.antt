use Rattle.register.proofs.Coding.{same_by}
use Rattle.register.proofs.contents.Contents.is.Goals as goal

pub returns : goal.returns
returns c = same_by c.as_slice.result.now c.as_slice-2.result.now c.args.self.now c.args.others.now c.are_same.result c.are_same.ensures c.as_slice.ensures c.as_slice-2.ensures
