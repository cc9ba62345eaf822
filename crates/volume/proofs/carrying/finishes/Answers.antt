use Rattle.volume.proofs.Common.{sym, subst, ManagerView, Quietly}
use Rattle.volume.proofs.Steps.{FinishesOr, finish_quietly, finishes_done, finishes_or}
use Rattle.volume.proofs.carrying.finishes.Goals as goal

pub returns-clause-quietly : goal.returns-clause-quietly
returns-clause-quietly g c =
    subst (λ (v : ManagerView). Quietly c.args.stack.now v) (sym c.step-reply.ensures.steps.after) (finish_quietly _ _ _ _ c.step-reply.ensures.steps.right)

pub returns-clause-done : goal.returns-clause-done
returns-clause-done g c =
    finishes_done c.is_done.result c.args.stack.now c.step-reply.new.stack c.args.tag c.step-reply.result c.is_done.ensures
    (subst (λ (v : ManagerView). FinishesOr c.args.stack.now c.args.tag v c.step-reply.result) (sym c.step-reply.ensures.steps.after)
    (finishes_or c.args.stack.now c.step-reply.ensures.steps.stepped c.args.tag c.step-reply.result c.requires.between.reached c.requires.none_fresh c.step-reply.ensures.steps.right))
