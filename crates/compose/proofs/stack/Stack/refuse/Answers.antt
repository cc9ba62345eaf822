use Rattle.std.proofs.Common.{◌∙◌}
use Rattle.compose.proofs.KeepsLabels.{refused_keeps}
use Rattle.compose.proofs.stack.Stack.refuse.Goals as goal

pub invariant_of-self : goal.invariant_of-self
invariant_of-self g c = refused_keeps c.self.inside.manager c.args.handle c.args.asked c.refuse.result c.refuse.new.self c.refuse.ensures.right ∙ c.self.invariant
