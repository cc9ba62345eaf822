use Rattle.std.proofs.Common.{refl, subst}
use Rattle.history_loss_judge.specs.Verdicts.{IsUnfit}
use Rattle.history_loss_judge.proofs.Whole.{unfit_by}
use Rattle.history_loss_judge.proofs.recorded.SessionHistory.misfit.Goals as goal

pub returns : goal.returns
returns c =
    subst (λ view. IsUnfit view.service view.lines) c.self.view_is
    (unfit_by c.explained_labels_fit.ensures c.self.inside.fitted c.self.inside.misfit c.self.inside.behind.items _ _ c.in_ok-why.was refl c.self.invariant.whole c.self.invariant.stops)
