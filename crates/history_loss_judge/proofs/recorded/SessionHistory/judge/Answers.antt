use Rattle.std.proofs.Common.{◌++◌, refl, subst}
use Rattle.std.specs.Prelude.{IfOk}
use Rattle.history_loss_judge.specs.Verdicts.{IsRight, IsUnfit}
use Rattle.history_loss_judge.specs.inside.Lines.{lines_in}
use Rattle.history_loss_judge.proofs.Whole.{none_behind, unfit_by}
use Rattle.history_loss_judge.proofs.recorded.SessionHistory.judge.Goals as goal

pub returns-in-Some : goal.returns-in-Some
returns-in-Some c = record {
  right = subst (λ view. IsUnfit view.service view.lines) c.self.view_is
      (unfit_by c.explained_labels_fit.ensures c.self.inside.fitted c.self.inside.misfit c.self.inside.behind.items _ _ c.in-Some.is refl c.self.invariant.whole c.self.invariant.stops);
}

pub returns-in-None : goal.returns-in-None
returns-in-None c = record {
  right = subst (λ view. IfOk c.judge_sectors.result (IsRight view.service view.start view.lines)) c.self.view_is
      (subst (λ lines. IfOk c.judge_sectors.result (IsRight c.self.inside.fitted.basis.service c.self.inside.start.items lines))
      (none_behind c.self.inside.fitted c.self.inside.misfit c.self.inside.behind.items (lines_in (c.self.inside.fitted.lines.items ++ c.self.inside.behind.items)) c.in-None.is refl c.self.invariant.stops)
      (c.judge_sectors.ensures c.self.inside.start.items c.self.invariant.starts));
}
