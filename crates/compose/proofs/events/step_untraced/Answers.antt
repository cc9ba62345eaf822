use Rattle.compose.proofs.Common.{◌∙◌, ap, subst, true, ManagerView, IsRight}
use Rattle.compose.proofs.events.step_untraced.Goals as goal

pub returns-clause-untraced : goal.returns-clause-untraced
returns-clause-untraced g c = record {
  stepped = c.step-reply.new.manager;
  right = subst (λ (v : ManagerView). IsRight v c.args.event c.step-reply.result c.step-reply.new.manager) c.keep_labels.ensures.keeps c.step-reply.ensures.right;
  after = c.keep_labels-2.ensures.keeps ∙ ap (λ (v : ManagerView). record v { keeps = true }) c.forget_labels.ensures.forgets;
}
