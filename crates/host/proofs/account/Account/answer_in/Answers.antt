use Rattle.host.proofs.Common.{ℕ, sym, subst, ClientRequest, as_answer, AllStand, BookView, Stands}
use Rattle.machine.specs.declared.Label.TheVariants.{Call as CallLabel}
use Rattle.host.proofs.Issuing.{stands_within}
use Rattle.host.proofs.account.Account.answer_in.Goals as goal

pub take_answer-requires : goal.take_answer-requires
take_answer-requires g c =
    let q : ClientRequest = c.requires.claim.0 in
    let client : ℕ = c.args.self.now.share.client in
    let stand = subst (AllStand c.args.book.now.traced.entries) c.requires.claim.1 c.check.ensures.stand in
    record { called = (q, client, subst (λ (b : BookView). Stands b.traced.entries c.args.awaited.now.place (CallLabel c.args.awaited.now.number q) client) (sym c.check.ensures.same.0) stand.0) }

pub claim-told-requires : goal.claim-told-requires
claim-told-requires g c =
    let q : ClientRequest = c.requires.claim.0 in
    let client : ℕ = c.args.self.now.share.client in
    let stand = subst (AllStand c.args.book.now.traced.entries) c.requires.claim.1 c.check.ensures.stand in
    let stood = subst (λ (b : BookView). Stands b.traced.entries c.args.awaited.now.place (CallLabel c.args.awaited.now.number q) client) (sym c.check.ensures.same.0) stand.0 in
    stands_within c.check.new.self.traced.entries c.take_answer.new.book.traced.entries c.in_ok-place.place (as_answer c.in_ok-place.answer) client c.take_answer.ensures.entries (c.in_ok-place.ensures.answer.2 client q stood)
