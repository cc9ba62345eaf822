use Rattle.std.proofs.Common.{◌≡◌, Err, rules}
use Rattle.judging.specs.inside.Faults.{fault_of_run}
use Rattle.judging.proofs.Blaming.{by_run, untold_by_run}
use Rattle.judging.proofs.scripts.record_script.Goals as goal

pub returns-in_err-run-clause-fault : goal.returns-in_err-run-clause-fault
returns-in_err-run-clause-fault g c =
    let told : c.from_residual.result ≡ Err (fault_of_run c.in_err-run.field-0.0) = search rules in
    rw told (by_run _ _ _ c.in_err-run.ensures.fault)

pub returns-in_err-run-clause-untold : goal.returns-in_err-run-clause-untold
returns-in_err-run-clause-untold g c =
    let told : c.from_residual.result ≡ Err (fault_of_run c.in_err-run.field-0.0) = search rules in
    rw told (untold_by_run _ _ _ c.in_err-run.ensures.untold)
