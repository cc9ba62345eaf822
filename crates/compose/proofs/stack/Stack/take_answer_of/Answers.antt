use Rattle.std.proofs.Common.{◌∙◌}
use Rattle.compose.proofs.KeepsLabels.{answer_of_keeps}
use Rattle.compose.proofs.stack.Stack.take_answer_of.Goals as goal

pub invariant_of-self : goal.invariant_of-self
invariant_of-self g c = answer_of_keeps c.self.inside.manager c.args.number c.take_answer_of.result c.take_answer_of.new.self c.take_answer_of.ensures.takes ∙ c.self.invariant
