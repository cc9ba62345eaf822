use Rattle.judge.proofs.Sparse.{told_equal}
use Rattle.judge.proofs.arrays.have_same_written.Goals as goal

pub returns : goal.returns
returns c = told_equal c.eq.result c.args.a.now c.args.b.now c.eq.ensures
