use Rattle.std.proofs.Common.{sym, ◌∙◌}
use Rattle.register_loss_judge.proofs.Checking.{value_there}
use Rattle.register_loss_judge.proofs.covering.gives.Goals as goal

pub returns : goal.returns
returns c = λ e. value_there c.args.value.now c.args.now.now (sym c.has_value.ensures ∙ e)
