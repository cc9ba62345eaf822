use Rattle.nbd.proofs.Haggling.{ends_plainly, opens_plainly}
use Rattle.nbd.proofs.handshake.begin.Goals as goal

pub returns-in-Ok-clause-opened : goal.returns-in-Ok-clause-opened
returns-in-Ok-clause-opened g c = opens_plainly _ _ _ _ _ _ c.in-Ok.ensures.opened

pub returns-in-Err-clause-ended : goal.returns-in-Err-clause-ended
returns-in-Err-clause-ended g c = ends_plainly _ _ _ _ _ c.in-Err.ensures.ended
