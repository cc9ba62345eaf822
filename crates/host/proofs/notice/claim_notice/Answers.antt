use Rattle.host.proofs.Common.{◌+◌, sym, subst, arith, AreBelow}
use Rattle.host.proofs.Noticing.{noticed}
use Rattle.host.proofs.notice.claim_notice.Goals as goal

pub returns-clause-noticed : goal.returns-clause-noticed
returns-clause-noticed g c = noticed c.args.notice c.args.book.now.traced.owners c.args.book.now.traced.entries c.args.from c.in_ok-place.place c.claim-claim.result c.shows_whole.ensures.rowed c.in_ok-place.ensures.finds c.claim-claim.ensures.claim

pub returns-clause-place : goal.returns-clause-place
returns-clause-place g c = (c.in_ok-place.ensures.finds.0, subst (AreBelow (c.in_ok-place.place + 1)) (sym c.claim-claim.ensures.claim.2) (omega arith, tt))
