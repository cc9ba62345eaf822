use Rattle.std.proofs.Common.{◌++◌, [], subst, true, false}
use Rattle.register_loss_judge.specs.Observed.{IsSoFar}
use Rattle.history_loss_kept.specs.Kept.{seen_by}
use Rattle.history_loss_sector.specs.Seen.{shared_in}
use Rattle.history_loss_judge.proofs.Judged.{cell_right}
use Rattle.history_loss_judge.proofs.judging.judge_cell.Goals as goal

pub returns : goal.returns
returns c = λ start is.
    let f = c.args.fitted.now in
    let seen = c.args.seen.now in
    let judged = c.in_ok-judged.judged in
    cell_right c.kept_tell_all.ensures c.kept_tell_steady.ensures c.refused_have_no_sessions.ensures f c.requires.whole start is c.args.sector seen c.requires.there judged.all judged.steady c.verdict_of.result
    (subst (λ xs. IsSoFar seen.start (seen.all ++ seen_by true (shared_in xs) [] seen.own) judged.all) c.as_slice.ensures.value c.in_ok-judged.ensures.all)
    (subst (λ xs. IsSoFar seen.start (seen.steady ++ seen_by false (shared_in xs) [] seen.own) judged.steady) c.as_slice.ensures.value c.in_ok-judged.ensures.steady) c.verdict_of.ensures
