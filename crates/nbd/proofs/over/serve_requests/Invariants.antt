use Rattle.std.proofs.Common.{◌≡◌}
use Rattle.nbd.specs.inside.Over.{ServedOver}
use Rattle.nbd.proofs.over.serve_requests.Given as goal

abbrev pub invariant-loop : goal.invariant-loop
invariant-loop g l = record {
  same : g.B.Backing.shape l.backing ≡ g.B.Backing.shape l.fn.backing;
  served : ServedOver g.B.Backing.Carries (g.B.Backing.shape l.fn.backing) l.fn.backing (g.R.Read.remaining l.fn.input) (g.W.Write.contents l.fn.out) l.backing (g.R.Read.remaining l.input) (g.W.Write.contents l.out);
}
