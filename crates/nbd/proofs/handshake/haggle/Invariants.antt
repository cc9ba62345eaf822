use Rattle.nbd.specs.declared.options.Next.TheVariants.{Options}
use Rattle.nbd.specs.inside.Handshake.{Haggles}
use Rattle.nbd.proofs.handshake.haggle.Given as goal

abbrev pub invariant-loop : goal.invariant-loop
invariant-loop g l =
    Haggles l.offer.sizes l.offer.no_zeroes l.fn.dialect (g.R.Read.remaining l.fn.input) (g.W.Write.contents l.fn.out) (g.R.Read.remaining l.input) (g.W.Write.contents l.out) l.now Options
