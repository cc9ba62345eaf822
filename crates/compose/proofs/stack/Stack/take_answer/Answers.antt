use Rattle.std.proofs.Common.{◌∙◌}
use Rattle.compose.proofs.KeepsLabels.{answer_keeps}
use Rattle.compose.proofs.stack.Stack.take_answer.Goals as goal

pub invariant_of-self : goal.invariant_of-self
invariant_of-self g c = answer_keeps c.self.inside.manager c.take_answer.result c.take_answer.new.self c.take_answer.ensures.takes ∙ c.self.invariant
