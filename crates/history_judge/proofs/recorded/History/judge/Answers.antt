use Rattle.std.proofs.Common.{◌≡◌, ◌++◌, refl, subst}
use Rattle.std.specs.Prelude.{IfOk}
use Rattle.history_judge.specs.Verdicts.{IsRightBy, IsUnfit}
use Rattle.history_judge.proofs.Judged.{misfit_by}
use Rattle.history_judge.proofs.Stopping.{none_behind, unfit_by}
use Rattle.history_judge.proofs.recorded.History.judge.Goals as goal

pub returns-in-Some : goal.returns-in-Some
returns-in-Some c = record {
  right = misfit_by c.args.self.now.any c.args.self.now.service c.args.self.now.start c.args.self.now.gaps c.args.self.now.labels _ _
      (subst (λ view. IsUnfit view.service view.gaps view.labels) c.self.view_is
      (unfit_by c.explained_by_some_fit.ensures c.self.inside.fitted c.self.inside.misfit c.self.inside.gaps_behind.items _ c.self.inside.behind.items _ _ c.in-Some.is refl refl c.self.invariant.whole c.self.invariant.stops));
}

pub returns-in-None : goal.returns-in-None
returns-in-None c =
    let f = c.self.inside.fitted in
    let all_gaps = f.gaps.items ++ c.self.inside.gaps_behind.items in
    let all = f.labels.items ++ c.self.inside.behind.items in
    let none : (f.gaps.items ≡ all_gaps) × (f.labels.items ≡ all) =
    none_behind f c.self.inside.misfit c.self.inside.gaps_behind.items all_gaps c.self.inside.behind.items all c.in-None.is refl refl c.self.invariant.stops in
    record {
      right = subst (λ view. IfOk c.judge_sectors.result (IsRightBy view.any view.service view.start view.gaps view.labels)) c.self.view_is
          (subst (λ gaps. IfOk c.judge_sectors.result (IsRightBy f.basis.start.any f.basis.service c.self.inside.start.items gaps all)) none.0
          (subst (λ labels. IfOk c.judge_sectors.result (IsRightBy f.basis.start.any f.basis.service c.self.inside.start.items f.gaps.items labels)) none.1
          (c.judge_sectors.ensures c.self.inside.start.items c.self.invariant.starts)));
    }
