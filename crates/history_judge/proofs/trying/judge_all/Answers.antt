use Rattle.std.proofs.Common.{sym, subst}
use Rattle.std.proofs.lemmas.List.Elements.{All-nil, All-contains}
use Rattle.register.specs.Schedules.{HasSchedule}
use Rattle.history_judge.specs.inside.Starting.{IsTriedOf}
use Rattle.history_judge.specs.inside.Cells.{IsTry}
use Rattle.history_judge.proofs.Begun.{tried_more, tried_all}
use Rattle.history_judge.proofs.trying.judge_all.Goals as goal

pub loop-one-init : goal.loop-one-init
loop-one-init c = λ sights all. All-nil (λ start. HasSchedule start sights → ⊥)

pub loop-one-preserved : goal.loop-one-preserved
loop-one-preserved c = λ sights all.
    let tries = c.args.tries.now in
    let i = c.loop-one.one-index in
    let item = c.one-item.result in
    let tried : IsTry sights item = All-contains (IsTry sights) tries item all (i, c.loop-one-test.true, sym c.one-item.is) in
    tried_more c.args.any c.args.size sights tries i item c.loop-one.tried.so_far c.tried_of-other.result.so_far c.better_of-tried.result.so_far c.loop-one-test.true (c.loop-one.invariant sights all)
    (subst (λ t. IsTriedOf c.args.any c.args.size t.start sights c.tried_of-other.result.so_far) c.one-item.is (c.tried_of-other.ensures sights tried)) c.better_of-tried.ensures

pub returns : goal.returns
returns c = λ sights all. tried_all c.args.any c.args.size sights c.args.tries.now c.loop-one.one-index c.loop-one.tried.so_far c.loop-one-test.false (c.loop-one.invariant sights all)
