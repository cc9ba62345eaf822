use Rattle.std.proofs.Common.{◌∙◌, ap, [], slice_range, unwrap_or}
use Rattle.judge.proofs.Sparse.{got_or}
use Rattle.judge.proofs.arrays.part_of.Goals as goal

pub returns : goal.returns
returns c =
    ap (λ found. slice_range (unwrap_or found []) c.args.from c.args.to) c.array_of.ensures
    ∙ ap (λ xs. slice_range xs c.args.from c.args.to) (got_or c.args.arrays.now c.args.partition [])
