use Rattle.std.proofs.Common.{◌∙◌}
use Rattle.nbd.proofs.Overs.{ends_at_sizes, served_at_sizes}
use Rattle.nbd.proofs.over.serve_requests.Goals as goal

pub returns-in-Err : goal.returns-in-Err
returns-in-Err g c =
    ends_at_sizes g.B.Backing.Carries _ _ _ _ _ _ _ _ _ _ _ c.loop.invariant.same c.loop.invariant.served c.in-Err.ensures.ended

pub loop-preserved : goal.loop-preserved
loop-preserved g c = record {
  same = c.in_default.ensures.same ∙ c.loop.invariant.same;
  served = served_at_sizes g.B.Backing.Carries _ _ _ _ _ _ _ _ _ _ _ c.loop.invariant.same c.loop.invariant.served c.in_default.ensures.exchanged;
}
