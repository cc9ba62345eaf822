use Rattle.std.proofs.Common.{subst}
use Rattle.register_judge.specs.Observed.{IsSoFar}
use Rattle.register_judge.proofs.Following.{keeps_right}
use Rattle.register_judge.proofs.observed.Observed.so_far.Goals as goal

pub returns : goal.returns
returns c = record {
  right = subst (λ view. IsSoFar view.start view.sights c.self.inside.so_far) c.self.view_is
      (keeps_right c.self.inside.start c.self.inside.register c.self.inside.seen.items c.self.inside.so_far c.self.invariant);
}
