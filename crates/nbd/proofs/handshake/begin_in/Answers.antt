use Rattle.nbd.proofs.Haggling.{ends_by, opens_by}
use Rattle.nbd.proofs.handshake.begin_in.Goals as goal

pub returns-in-Ok-clause-opened : goal.returns-in-Ok-clause-opened
returns-in-Ok-clause-opened g c = opens_by _ _ _ _ _ _ _ _ _ _ c.in-Ok.ensures.greeted c.answer_options.ensures.opened

pub returns-in-Ok-clause-ended : goal.returns-in-Ok-clause-ended
returns-in-Ok-clause-ended g c = ends_by _ _ _ _ _ _ _ _ _ c.in-Ok.ensures.greeted c.answer_options.ensures.ended
