use Rattle.nbd.proofs.Serving.{ends_after, served_more}
use Rattle.nbd.proofs.session.serve_requests.Goals as goal

pub returns-in-Err : goal.returns-in-Err
returns-in-Err g c = ends_after _ _ _ _ _ _ _ _ _ _ _ c.loop.invariant c.in-Err.ensures.ended

pub loop-preserved : goal.loop-preserved
loop-preserved g c = served_more _ _ _ _ _ _ _ _ _ _ _ c.loop.invariant c.in_default.ensures.exchanged
