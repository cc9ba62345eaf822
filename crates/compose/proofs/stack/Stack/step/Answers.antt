use Rattle.std.proofs.Common.{◌∙◌}
use Rattle.compose.proofs.KeepsLabels.{step_keeps}
use Rattle.compose.proofs.stack.Stack.step.Goals as goal

pub invariant_of-self : goal.invariant_of-self
invariant_of-self g c = step_keeps c.self.inside.manager c.args.event c.step.result c.step.new.manager c.step.ensures.right ∙ c.self.invariant
