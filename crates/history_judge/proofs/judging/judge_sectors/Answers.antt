use Rattle.std.proofs.Common.{subst}
use Rattle.std.proofs.lemmas.Result.{IfOk-weaker}
use Rattle.history_judge.specs.Verdicts.{IsRightBy}
use Rattle.history_judge.specs.inside.Judging.{IsRightOf}
use Rattle.history_judge.proofs.Judged.{right_all}
use Rattle.history_judge.proofs.Stopping.{fit_so_far}
use Rattle.history_judge.proofs.judging.judge_sectors.Goals as goal

pub returns : goal.returns
returns c = λ start is.
    let f = c.args.fitted.now in
    let any = f.basis.start.any in
    IfOk-weaker c.judge_all.result (IsRightOf any f.basis.service start f.gaps.items f.labels.items c.as_slice.result.now) (IsRightBy any f.basis.service start f.gaps.items f.labels.items)
    (λ verdict h. right_all c.shown_by_waits.ensures any f.basis.service start f.basis.start.bytes f.gaps.items f.labels.items f.cells verdict (fit_so_far f c.requires) c.requires.cells
    (subst (λ ps. IsRightOf any f.basis.service start f.gaps.items f.labels.items ps verdict) c.as_slice.ensures.value h))
    (c.judge_all.ensures start is)
