use Rattle.history_judge.proofs.Judged.{undecided_by}
use Rattle.history_judge.proofs.judging.judge_sector.Goals as goal

pub returns-in-None : goal.returns-in-None
returns-in-None c = λ start is. undecided_by c.args.fitted.now.basis.start.any c.args.fitted.now.basis.service start c.args.fitted.now.gaps.items c.args.fitted.now.labels.items c.args.place
