use Rattle.std.proofs.Common.{◌∙◌}
use Rattle.compose.proofs.KeepsLabels.{label_keeps}
use Rattle.compose.proofs.stack.Stack.take_label.Goals as goal

pub invariant_of-self : goal.invariant_of-self
invariant_of-self g c = label_keeps c.self.inside.manager c.take_label.result c.take_label.new.self c.take_label.ensures.takes ∙ c.self.invariant
