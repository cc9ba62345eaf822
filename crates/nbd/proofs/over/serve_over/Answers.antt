use Rattle.nbd.proofs.Overs.{ended_unasked, whole_session}
use Rattle.nbd.proofs.over.serve_over.Goals as goal

pub returns-in-Ok : goal.returns-in-Ok
returns-in-Ok g c = whole_session g.B.Backing.Carries _ _ _ _ _ _ _ _ _ _ c.sizes.ensures.exact c.in-Ok.ensures.opened c.serve_requests.ensures

pub returns-in-Err : goal.returns-in-Err
returns-in-Err g c = ended_unasked g.B.Backing.Carries _ _ _ _ _ _ _ c.sizes.ensures.exact c.in-Err.ensures.ended
