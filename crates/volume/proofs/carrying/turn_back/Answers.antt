use Rattle.volume.proofs.Common.{sym, subst, ManagerView, Quietly}
use Rattle.volume.proofs.Steps.{finish_quietly}
use Rattle.volume.proofs.carrying.turn_back.Goals as goal

pub returns-clause-quietly : goal.returns-clause-quietly
returns-clause-quietly g c =
    subst (λ (v : ManagerView). Quietly c.args.stack.now v) (sym c.step.ensures.steps.after) (finish_quietly _ _ _ _ c.step.ensures.steps.right)
