use Rattle.std.proofs.Common.{rules}
use Rattle.host.specs.Clients.{AreNumbered}
use Rattle.rounds.specs.Tallies.{AreCounted}
use Rattle.rounds.proofs.Counting.{tallied}
use Rattle.rounds.proofs.threads.serve.Goals as goal

pub returns-clause-tallied : goal.returns-clause-tallied
returns-clause-tallied g c =
    let numbered : AreNumbered c.args.plan.clients c.in-Ok-served.clients.items = search rules in
    let counted : AreCounted c.args.plan.clients c.args.plan.rounds c.in-Ok-served.clients.items c.in-Ok-served.tally = search rules in
    tallied _ _ _ _ _ numbered counted c.close-closed.ensures.closed.stand
