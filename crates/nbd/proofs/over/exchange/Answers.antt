use Rattle.std.proofs.Common.{◌≡◌, Err, rules}
use Rattle.nbd.proofs.Overs.{ends_at_once, ends_unserved, ends_untold, exchanged_and_kept}
use Rattle.nbd.proofs.over.exchange.Goals as goal

pub returns-in_err-request-clause-ended : goal.returns-in_err-request-clause-ended
returns-in_err-request-clause-ended g c =
    let given : c.from_residual.result ≡ Err c.in_err-request.field-0.0 = search rules in
    rw given (ends_at_once g.B.Backing.Carries _ _ _ _ _ c.in_err-request.ensures.ended)

pub returns-in_err-answer-clause-ended : goal.returns-in_err-answer-clause-ended
returns-in_err-answer-clause-ended g c =
    let given : c.from_residual-in_err-answer.result ≡ Err c.in_err-answer.field-0.0 = search rules in
    rw given (ends_unserved g.B.Backing.Carries _ _ _ _ _ _ c.in_err-answer.ensures.ended.0 c.in_err-answer.ensures.ended.1)

pub returns-in_err-tell-clause-ended : goal.returns-in_err-tell-clause-ended
returns-in_err-tell-clause-ended g c =
    let given : c.from_residual-in_err-tell.result ≡ Err c.in_err-tell.field-0.0 = search rules in
    rw given (ends_untold g.B.Backing.Carries _ _ _ _ _ _ _ _ _ _ _ c.in_err-tell.ensures.ended c.in_ok-request.ensures.taken c.in_ok-answer.ensures.served)

pub returns-clause-exchanged : goal.returns-clause-exchanged
returns-clause-exchanged g c =
    exchanged_and_kept g.B.Backing.Carries _ _ _ _ _ _ _ _ _ _ _ c.keep.ensures c.in_ok-request.ensures.taken c.in_ok-answer.ensures.served c.in_ok-tell.ensures.told
