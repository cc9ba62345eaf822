use Rattle.register_loss_judge.proofs.Judging.{one_formed}
use Rattle.register_loss_judge.proofs.observed.first.Goals as goal

pub returns : goal.returns
returns c = one_formed c.args.start.now c.push.new.self.items c.new-states.result.items c.in_ok-opening.field-0 c.in_ok-push.ensures.items c.new-states.ensures.items c.in_ok-opening.ensures
