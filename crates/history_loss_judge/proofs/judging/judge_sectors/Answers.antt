use Rattle.std.proofs.Common.{◌≡◌, ◌∙◌, ap, sym, subst}
use Rattle.history_loss_judge.specs.Verdicts.{IsRight}
use Rattle.history_loss_judge.specs.inside.Histories.{owing_after}
use Rattle.history_loss_judge.specs.inside.Judging.{IsRightOf, with_owing}
use Rattle.history_loss_judge.specs.inside.Lines.{lines_in}
use Rattle.history_loss_judge.proofs.Judged.{right_all}
use Rattle.history_loss_judge.proofs.judging.judge_sectors.Goals as goal

pub returns : goal.returns
returns c = λ start is.
    let f = c.args.fitted.now in
    let verdict = c.in_ok-verdict.verdict in
    let e : c.with_owing.result ≡ with_owing verdict (owing_after f.owing f.known.owed 0) = c.with_owing.ensures ∙ ap (with_owing verdict) c.owing_after-owing.ensures in
    subst (IsRight f.basis.service start (lines_in f.lines.items)) (sym e)
    (right_all c.kept_tell_steady.ensures f c.requires start verdict
    (subst (λ xs. IsRightOf f.basis.service start (lines_in f.lines.items) xs verdict) c.as_slice.ensures.value (c.in_ok-verdict.ensures start is)))
