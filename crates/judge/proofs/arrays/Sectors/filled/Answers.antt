use Rattle.std.proofs.Common.{◌∙◌, ap, replicate}
use Rattle.judge.proofs.Sparse.{filled_with}
use Rattle.judge.proofs.arrays.Sectors.filled.Goals as goal

pub returns : goal.returns
returns c = filled_with c.into_vec.result.items c.args.count c.new.result c.new.ensures.empty ∙ ap (λ xs. replicate c.args.count xs) c.into_vec.ensures
