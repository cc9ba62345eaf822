use Rattle.host.proofs.Common.{sym, ◌∙◌, subst, as_answer, ReceiptsView, receipt, AccountKept}
use Rattle.host.proofs.Accounts.{account_answered}
use Rattle.host.proofs.account.Account.keep_answer.Goals as goal

pub invariant_of-self : goal.invariant_of-self
invariant_of-self g c =
    let is = c.requires.claim ∙ (λ i. receipt c.args.places.answer (as_answer c.args.answer) (sym c.self.view_is i).share.client) in
    subst (λ (r : ReceiptsView). AccountKept g.N.TraceNaming.handles g.N.TraceNaming.partitions c.self.inside.share c.self.inside.called.list r.list) (sym c.keep.ensures)
    (account_answered g.N.TraceNaming.handles g.N.TraceNaming.partitions c.self.inside.share c.self.inside.called.list c.self.inside.answered.list c.args.claim c.args.places.answer (as_answer c.args.answer) c.self.invariant is tt)
