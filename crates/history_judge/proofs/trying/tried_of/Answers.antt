use Rattle.std.proofs.Common.{sym, subst}
use Rattle.history_judge.specs.inside.Starting.{IsTriedOf}
use Rattle.history_judge.proofs.Begun.{so_far_of}
use Rattle.history_judge.proofs.trying.tried_of.Goals as goal

pub returns : goal.returns
returns c = λ sights is.
    subst (IsTriedOf c.args.any c.args.size c.args.attempt.now.start sights) (sym c.so_far_if.ensures)
    (so_far_of c.args.any c.args.size c.args.attempt.now sights c.counts-counted.result c.so_far-found.result c.counts-counted.ensures is c.so_far-found.ensures.right)
