use Rattle.std.proofs.Common.{[], arith, option_copied, unwrap_or}
use Rattle.judge.proofs.Sparse.{in_part, none_in_part}
use Rattle.judge.proofs.arrays.Part.at.Goals as goal

pub returns-then-self-count_of : goal.returns-then-self-count_of
returns-then-self-count_of c =
    absurd (none_in_part (unwrap_or (option_copied c.self.inside.array) []) c.args.self.now c.self.inside.from c.self.inside.to c.self.view_is
    c.count_of.result c.args.number c.count_of.ensures (omega arith) c.requires)

pub returns : goal.returns
returns c =
    in_part (unwrap_or (option_copied c.self.inside.array) []) c.args.self.now c.self.inside.from c.self.inside.to c.self.view_is
    c.args.number c.sector_of.result.now c.requires c.sector_of.ensures
