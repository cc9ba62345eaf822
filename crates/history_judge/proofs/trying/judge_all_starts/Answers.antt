use Rattle.std.proofs.Common.{sym, ◌∙◌, [], ◌++◌, true, subst}
use Rattle.std.specs.Prelude.{All}
use Rattle.std.proofs.lemmas.Result.{IfOk-weaker}
use Rattle.history_judge.specs.inside.Starting.{HasStarts, IsTriedAll, IsTriedAny}
use Rattle.history_judge.specs.inside.Cells.{sights_in, starts_in, IsTry}
use Rattle.history_judge.proofs.Begun.{tried_any}
use Rattle.history_judge.proofs.trying.judge_all_starts.Goals as goal

pub returns : goal.returns
returns c =
    let first = c.args.first.now in
    let given = sights_in c.args.given.now in
    let tries = c.in_ok-tries.tries.items in
    let starts : HasStarts first given (starts_in tries) = subst (HasStarts first given) (sym (c.in_ok-tries.ensures.starts ∙ c.as_slice.ensures.value)) c.in_ok-starts.ensures.here in
    let tried = c.judge_tries.ensures [] (subst (All (IsTry [])) (sym c.as_slice-2.ensures.value) c.in_ok-tries.ensures.seen) in
    IfOk-weaker c.judge_tries.result (λ tried. IsTriedAll true c.args.size (starts_in c.as_slice-2.result.now) ([] ++ given) tried.so_far) (λ tried. IsTriedAny c.args.size given tried.so_far)
    (λ t h. tried_any c.args.size first given (starts_in tries) t.so_far starts (subst (λ ts. IsTriedAll true c.args.size (starts_in ts) given t.so_far) c.as_slice-2.ensures.value h)) tried
