use Rattle.book.proofs.Common.{inr, length, subst, BookView, FailsAs}
use Rattle.book.proofs.book.Book.failure_of.Goals as goal

pub returns-clause-why : goal.returns-clause-why
returns-clause-why g c =
    subst (λ (b : BookView). FailsAs b.traced.stack.adapter (length b.taken) c.args.tag c.args.journal.now c.failure-2.result c.transfer.new.journal) c.self.view_is
    (inr (record {
      armed = c.arm_tag.new.journal;
      arms = c.arm_tag.ensures.arms;
      failed = c.transfer.result;
      transfers = c.transfer.ensures.transfers;
      told = c.failure-2.ensures.told;
    }))
