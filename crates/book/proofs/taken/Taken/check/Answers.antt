use Rattle.book.proofs.Common.{List, subst, Entered, BeginsWith, entries_claimed}
use Rattle.book.proofs.Numbered.{begins}
use Rattle.book.proofs.taken.Taken.check.Goals as goal

pub returns-clause-front : goal.returns-clause-front
returns-clause-front g c =
    subst (λ (first : List Entered). BeginsWith c.args.journal.now.entered first) c.self.view_is
    (begins c.args.journal.now.entered (entries_claimed c.self.inside.receipts) c.self.inside.receipts c.self.invariant.numbered c.check.ensures.stand)
