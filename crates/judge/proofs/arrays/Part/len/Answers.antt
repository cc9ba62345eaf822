use Rattle.std.proofs.Common.{[], option_copied, unwrap_or}
use Rattle.judge.proofs.Sparse.{part_length}
use Rattle.judge.proofs.arrays.Part.len.Goals as goal

pub returns : goal.returns
returns c =
    part_length (unwrap_or (option_copied c.self.inside.array) []) c.args.self.now c.self.inside.from c.self.inside.to c.self.view_is
    c.count_of.result c.min-end.result c.saturating_sub.result c.count_of.ensures c.min-end.ensures c.saturating_sub.ensures
