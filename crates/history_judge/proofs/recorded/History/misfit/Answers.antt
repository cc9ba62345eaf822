use Rattle.std.proofs.Common.{refl, subst}
use Rattle.history_judge.specs.Verdicts.{IsUnfit}
use Rattle.history_judge.proofs.Stopping.{unfit_by}
use Rattle.history_judge.proofs.recorded.History.misfit.Goals as goal

pub returns : goal.returns
returns c =
    subst (λ view. IsUnfit view.service view.gaps view.labels) c.self.view_is
    (unfit_by c.explained_by_some_fit.ensures c.self.inside.fitted c.self.inside.misfit c.self.inside.gaps_behind.items _ c.self.inside.behind.items _ _ c.in_ok-why.was refl refl c.self.invariant.whole c.self.invariant.stops)
