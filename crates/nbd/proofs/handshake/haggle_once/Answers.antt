use Rattle.std.proofs.Common.{◌≡◌, Err, rules}
use Rattle.nbd.proofs.Haggling.{asks_once, untold}
use Rattle.nbd.proofs.handshake.haggle_once.Goals as goal

pub returns-clause-asked : goal.returns-clause-asked
returns-clause-asked g c =
    asks_once _ _ _ _ _ _ _ _ _ _ _ _ c.in_ok-code.ensures.taken c.hear.ensures c.in_ok-reply.ensures.told c.next-2.ensures c.next.ensures

pub returns-in_err-reply-clause-ended : goal.returns-in_err-reply-clause-ended
returns-in_err-reply-clause-ended g c =
    let given : c.from_residual-in_err-reply.result ≡ Err c.in_err-reply.field-0.0 = search rules in
    rw given (untold _ _ c.in_err-reply.ensures.ended)
