use Rattle.std.proofs.Common.{◌≡◌, Err, false, true, rules}
use Rattle.nbd.specs.Dialects.{asks_status}
use Rattle.nbd.proofs.Serving.{ends_at_once, ends_unserved, ends_untold, exchanged, status_ended, status_exchanged}
use Rattle.nbd.proofs.session.exchange.Goals as goal

pub returns-in_err-request-clause-ended : goal.returns-in_err-request-clause-ended
returns-in_err-request-clause-ended g c =
    let given : c.from_residual.result ≡ Err c.in_err-request.field-0.0 = search rules in
    rw given (ends_at_once _ _ _ _ _ _ c.in_err-request.ensures.ended)

pub returns-in_err-answer-clause-ended : goal.returns-in_err-answer-clause-ended
returns-in_err-answer-clause-ended g c =
    let given : c.from_residual-in_err-answer.result ≡ Err c.in_err-answer.field-0.0 = search rules in
    rw given (ends_unserved _ _ _ _ _ _ _ c.in_err-answer.ensures.ended.0 c.in_err-answer.ensures.ended.1)

pub returns-in_err-tell-clause-ended : goal.returns-in_err-tell-clause-ended
returns-in_err-tell-clause-ended g c =
    let given : c.from_residual-in_err-tell.result ≡ Err c.in_err-tell.field-0.0 = search rules in
    let other : asks_status c.args.dialect c.in_ok-request.request ≡ false = search rules in
    rw given (ends_untold _ _ _ _ _ _ _ _ _ _ _ _ c.in_err-tell.ensures.ended other c.in_ok-request.ensures.taken c.in_ok-answer.ensures.served)

pub returns-clause-exchanged : goal.returns-clause-exchanged
returns-clause-exchanged g c =
    let other : asks_status c.args.dialect c.in_ok-request.request ≡ false = search rules in
    exchanged _ _ _ _ _ _ _ _ _ _ _ other c.in_ok-request.ensures.taken c.in_ok-answer.ensures.served c.in_ok-tell.ensures.told

pub returns-then-asks_status-clause-exchanged : goal.returns-then-asks_status-clause-exchanged
returns-then-asks_status-clause-exchanged g c =
    let asks : asks_status c.args.dialect c.in_ok-request.request ≡ true = search rules in
    status_exchanged _ _ _ _ _ _ _ _ _ asks c.in_ok-request.ensures.taken c.tell_status.ensures.told

pub returns-then-asks_status-clause-ended : goal.returns-then-asks_status-clause-ended
returns-then-asks_status-clause-ended g c = status_ended _ _ _ _ _ _ _ c.tell_status.ensures.ended
