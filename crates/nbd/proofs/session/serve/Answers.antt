use Rattle.nbd.proofs.Haggling.{ended_unasked, whole_session}
use Rattle.nbd.proofs.session.serve.Goals as goal

pub returns-in-Ok : goal.returns-in-Ok
returns-in-Ok g c = whole_session _ _ _ _ _ _ _ _ _ _ _ c.sizes.ensures.block c.sizes.ensures.bytes c.sizes.ensures.read_only c.in-Ok.ensures.opened c.serve_requests.ensures

pub returns-in-Err : goal.returns-in-Err
returns-in-Err g c = ended_unasked _ _ _ _ _ _ _ c.sizes.ensures.block c.sizes.ensures.bytes c.sizes.ensures.read_only c.in-Err.ensures.ended
