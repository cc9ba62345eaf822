use Rattle.std.proofs.Common.{◌∙◌, ap}
use Rattle.sector.specs.Splice.{splice}
use Rattle.judge.proofs.Sparse.{from_none}
use Rattle.judge.proofs.arrays.Sectors.new.Goals as goal

pub returns : goal.returns
returns c = c.in_ok-write.ensures ∙ ap (λ xs. splice xs 0 c.args.sectors.items) c.filled-all.ensures ∙ from_none c.args.sectors.items
