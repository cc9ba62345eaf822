-- What came back neither good nor busy has failed, and nothing that acted or faulted comes back busy.
use Rattle.probe.proofs.Exchanging.{failed, not_good}
use Rattle.probe.proofs.exchange.ask.Goals as goal

pub returns-in-Busy-clause-fault : goal.returns-in-Busy-clause-fault
returns-in-Busy-clause-fault g c =
    let old = g.A.Adapter.view c.args.adapter.now in
    let back = g.A.Adapter.view c.exchange-srb.new.adapter in
    let after = g.A.Adapter.view c.forget_labels.new.self in
    failed old back after c.args.command.now c.exchange-srb.result.0 c.exchange-srb.result.1 c.status.result c.exchange-srb.ensures.asks
    c.forget_labels.ensures.forgets (not_good c.class.result c.exchange-srb.result.1 c.class.ensures c.in-Busy.is) c.status.ensures
