use Rattle.std.proofs.lemmas.Result.{IfOk-weaker}
use Rattle.judging.specs.inside.Saying.{IsBy, IsSaid}
use Rattle.judging.proofs.SaidOfHistories.{said_by}
use Rattle.judging.proofs.histories.judged.Goals as goal

pub returns-in-Passed : goal.returns-in-Passed
returns-in-Passed c =
    let history = c.args.recorded.now.history in
    IfOk-weaker c.judged_idle.result (IsBy c.in_ok-verdict.verdict) (IsSaid history) (λ said is. said_by history c.in_ok-verdict.verdict said c.in_ok-verdict.ensures.right is) c.judged_idle.ensures
