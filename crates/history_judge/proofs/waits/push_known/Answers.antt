use Rattle.std.proofs.Common.{◌∷◌, ◌++◌, [], sym, ◌∙◌, ap}
use Rattle.history.specs.Waits.{known}
use Rattle.history_judge.specs.inside.Cells.{sights_in}
use Rattle.history_judge.proofs.Celling.{sights_push}
use Rattle.history_judge.proofs.waits.push_known.Goals as goal

pub returns-in_ok-push-in-Known : goal.returns-in_ok-push-in-Known
returns-in_ok-push-in-Known c =
    ap sights_in c.in_ok-push-in-Known.ensures.items
    ∙ sights_push c.args.given.now.items (record { line = c.args.marked.now.line; sight = c.in_ok-sight-in-Known.sight })
    ∙ ap (λ s. sights_in c.args.given.now.items ++ s ∷ []) c.in_ok-sight-in-Known.ensures
    ∙ ap (λ w. sights_in c.args.given.now.items ++ known (w ∷ [])) (sym c.in-Known.is)
