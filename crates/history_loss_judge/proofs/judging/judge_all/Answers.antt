use Rattle.std.proofs.lemmas.List.Elements.{All-nil}
use Rattle.history_loss_judge.specs.Verdicts.{PassesSteady}
use Rattle.history_loss_judge.specs.inside.Lines.{lines_in}
use Rattle.history_loss_judge.proofs.Judged.{right_more, right_of_all}
use Rattle.history_loss_judge.proofs.judging.judge_all.Goals as goal

pub loop-sector-init : goal.loop-sector-init
loop-sector-init c = λ start is. All-nil (PassesSteady c.args.fitted.now.basis.service start (lines_in c.args.fitted.now.lines.items))

pub loop-sector-preserved : goal.loop-sector-preserved
loop-sector-preserved c = λ start is.
    right_more c.args.fitted.now.basis.service start (lines_in c.args.fitted.now.lines.items) c.args.sectors.now c.loop-sector.sector-index _ c.loop-sector.verdict c.in_ok-other.other c.first_of-verdict.result c.loop-sector-test.true
    (c.loop-sector.invariant start is) (c.in_ok-other.ensures start is) c.first_of-verdict.ensures

pub returns : goal.returns
returns c = λ start is.
    right_of_all c.args.fitted.now.basis.service start (lines_in c.args.fitted.now.lines.items) c.args.sectors.now c.loop-sector.sector-index c.loop-sector.verdict c.loop-sector-test.false (c.loop-sector.invariant start is)
