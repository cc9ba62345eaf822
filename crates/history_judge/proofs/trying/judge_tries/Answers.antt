use Rattle.std.proofs.Common.{◌++◌, [], sym, subst}
use Rattle.std.specs.Prelude.{All}
use Rattle.history_judge.specs.inside.Starting.{IsTriedAll}
use Rattle.history_judge.specs.inside.Cells.{AllSee, sights_in, starts_in, IsTry}
use Rattle.history_judge.proofs.Celling.{all_see_more}
use Rattle.history_judge.proofs.trying.judge_tries.Goals as goal

pub returns : goal.returns
returns c = λ seen all.
    let given = sights_in c.args.given.now in
    let tries = c.args.tries.now in
    let after = c.see_all.new.tries.items in
    let sees : AllSee given tries after = all_see_more [] given tries c.in_ok-after.after.items after c.in_ok-after.ensures c.in_ok-see_all.ensures in
    subst (λ ts. IsTriedAll c.args.any c.args.size ts (seen ++ given) c.judge_all.result.so_far) (sees.starts)
    (subst (λ ts. IsTriedAll c.args.any c.args.size (starts_in ts) (seen ++ given) c.judge_all.result.so_far) c.as_slice.ensures.value
    (c.judge_all.ensures (seen ++ given) (subst (All (IsTry (seen ++ given))) (sym c.as_slice.ensures.value) (sees.seen seen all))))
