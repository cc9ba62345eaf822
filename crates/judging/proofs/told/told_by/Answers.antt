use Rattle.std.proofs.Common.{rules, ◌≡◌, IfOk, subst}
use Rattle.judging.specs.inside.Telling.{Tells}
use Rattle.judging.proofs.told.told_by.Goals as goal

pub returns-in-Ok-clause-told : goal.returns-in-Ok-clause-told
returns-in-Ok-clause-told c =
    let same : c.in-Ok.text.now ≡ c.args.line.now = search rules in
    subst (λ t. IfOk c.told_by_text.result (Tells t)) same c.told_by_text.ensures.told
