use Rattle.judge.proofs.Sparse.{cloned}
use Rattle.judge.proofs.arrays.written_copied.Goals as goal

pub returns : goal.returns
returns c = λ at. cloned c.args.written.now.entries c.in_ok-copy.copy.entries c.in_ok-copy.ensures.cases at
