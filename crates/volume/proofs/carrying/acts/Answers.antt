use Rattle.volume.proofs.Common.{sym, subst, ManagerView, Quietly}
use Rattle.volume.proofs.Steps.{ActsOr, act_quietly, acts_done, acts_kept, acts_or}
use Rattle.volume.proofs.carrying.acts.Goals as goal

pub returns-clause-quietly : goal.returns-clause-quietly
returns-clause-quietly g c =
    subst (λ (v : ManagerView). Quietly c.args.stack.now v) (sym c.step-reply.ensures.steps.after) (act_quietly _ _ _ _ c.step-reply.ensures.steps.right)

pub returns-clause-same_tags : goal.returns-clause-same_tags
returns-clause-same_tags g c =
    (acts_kept c.args.stack.now c.step-reply.new.stack c.args.tag c.step-reply.result
    (subst (λ (v : ManagerView). ActsOr c.args.stack.now c.args.tag v c.step-reply.result) (sym c.step-reply.ensures.steps.after) (acts_or c.args.stack.now c.step-reply.ensures.steps.stepped _ _ c.step-reply.ensures.steps.right))).0

pub returns-clause-same_work : goal.returns-clause-same_work
returns-clause-same_work g c =
    (acts_kept c.args.stack.now c.step-reply.new.stack c.args.tag c.step-reply.result
    (subst (λ (v : ManagerView). ActsOr c.args.stack.now c.args.tag v c.step-reply.result) (sym c.step-reply.ensures.steps.after) (acts_or c.args.stack.now c.step-reply.ensures.steps.stepped _ _ c.step-reply.ensures.steps.right))).1

pub returns-clause-done : goal.returns-clause-done
returns-clause-done g c =
    acts_done c.is_done.result c.args.stack.now c.step-reply.new.stack c.args.tag c.step-reply.result c.is_done.ensures
    (subst (λ (v : ManagerView). ActsOr c.args.stack.now c.args.tag v c.step-reply.result) (sym c.step-reply.ensures.steps.after) (acts_or c.args.stack.now c.step-reply.ensures.steps.stepped _ _ c.step-reply.ensures.steps.right))
