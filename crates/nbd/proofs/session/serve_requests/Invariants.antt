use Rattle.nbd.specs.inside.Session.{Served}
use Rattle.nbd.proofs.session.serve_requests.Given as goal

abbrev pub invariant-loop : goal.invariant-loop
invariant-loop g l =
    Served g.A.Array.fails l.dialect (g.A.Array.content l.fn.array) (g.R.Read.remaining l.fn.input) (g.W.Write.contents l.fn.out) (g.A.Array.content l.array) (g.R.Read.remaining l.input) (g.W.Write.contents l.out)
