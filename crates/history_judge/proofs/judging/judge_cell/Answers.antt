use Rattle.std.proofs.Common.{subst}
use Rattle.history.specs.Waits.{known}
use Rattle.history_fitting.specs.Services.{rules_of}
use Rattle.history_judge.specs.inside.Starting.{IsTriedBy}
use Rattle.history_judge.specs.inside.Cells.{IsCellAt, seen_of}
use Rattle.history_judge.proofs.Judged.{sector_right}
use Rattle.history_judge.proofs.judging.judge_cell.Goals as goal

pub returns : goal.returns
returns c = λ start is.
    let f = c.args.fitted.now in
    let place = c.args.place in
    let rules = rules_of f.basis.service in
    let seen = seen_of rules f.labels.items place.partition place.sector in
    let cell = subst (IsCellAt f.basis.start.any f.basis.start.bytes seen) c.requires.there (c.requires.whole.cells.cell place.partition place.sector) in
    sector_right c.refused_are_unexplained_by_any.ensures c.shown_by_waits.ensures f.basis.service f.gaps.items f.labels.items place f.basis.start.any start c.in_ok-tried.tried.so_far c.verdict_of.result
    (subst (λ n. IsTriedBy f.basis.start.any f.basis.service.sector_size n (known seen) c.in_ok-tried.tried.so_far) is (c.in_ok-tried.ensures seen cell)) c.verdict_of.ensures
