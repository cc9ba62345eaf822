use Rattle.book.proofs.Beginning.{kept_answered}
use Rattle.book.proofs.book.Book.take_answer.Goals as goal

pub invariant_of-self : goal.invariant_of-self
invariant_of-self g c =
    kept_answered _ _ c.self.inside.traced c.take_answer.new.self _ _ c.args.number c.take_answer.result c.take_answer.ensures.takes c.take_answer.ensures.same c.self.invariant
