use Rattle.std.proofs.Common.{◌∙◌}
use Rattle.compose.proofs.KeepsLabels.{shown_keeps}
use Rattle.compose.proofs.stack.Stack.take_shown.Goals as goal

pub invariant_of-self : goal.invariant_of-self
invariant_of-self g c = shown_keeps c.self.inside.manager c.take_shown.result c.take_shown.new.self c.take_shown.ensures.takes ∙ c.self.invariant
