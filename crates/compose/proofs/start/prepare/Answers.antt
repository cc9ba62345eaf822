use Rattle.std.proofs.Common.{◌≡◌, Err, rules}
use Rattle.compose.specs.Opening.{start_fault_of}
use Rattle.compose.proofs.Faulting.{start_fault}
use Rattle.compose.proofs.start.prepare.Goals as goal

pub returns-in_err-probed-clause-fault : goal.returns-in_err-probed-clause-fault
returns-in_err-probed-clause-fault g c =
    let given : c.from_residual.result ≡ Err (start_fault_of c.in_err-probed.field-0.0) = search rules in
    rw given (start_fault (g.A.Adapter.view c.args.adapter.now) (g.A.Adapter.view c.probe.new.adapter) c.args.settings
    (c.are_in_range.ensures.0 c.if-not-are_in_range.false) c.in_err-probed.field-0.0 c.in_err-probed.ensures.fault)

pub returns-clause-in_range : goal.returns-clause-in_range
returns-clause-in_range g c = c.are_in_range.ensures.0 c.if-not-are_in_range.false
