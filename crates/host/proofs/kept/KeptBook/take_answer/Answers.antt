use Rattle.std.proofs.Common.{sym, ◌∙◌}
use Rattle.host.proofs.Standing.{answer_leaves}
use Rattle.host.proofs.kept.KeptBook.take_answer.Goals as goal

pub invariant_of-self : goal.invariant_of-self
invariant_of-self g c =
    c.self.invariant ∙ sym (answer_leaves c.self.inside.book.traced.stack c.take_answer.new.self.traced.stack c.args.number c.take_answer.result c.take_answer.ensures.takes)
