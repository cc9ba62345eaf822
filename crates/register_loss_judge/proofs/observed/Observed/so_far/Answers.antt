use Rattle.std.proofs.Common.{subst}
use Rattle.register_loss_judge.specs.Observed.{IsSoFar}
use Rattle.register_loss_judge.specs.inside.States.{forms}
use Rattle.register_loss_judge.proofs.Watching.{keeps_right}
use Rattle.register_loss_judge.proofs.observed.Observed.so_far.Goals as goal

pub returns : goal.returns
returns c = record {
  right = subst (λ view. IsSoFar view.start view.sights c.self.inside.so_far) c.self.view_is
      (keeps_right c.self.inside.start (forms c.self.inside.states.items) c.self.inside.seen.items c.self.inside.so_far c.self.invariant);
}
