use Rattle.std.proofs.Common.{◌≡◌, Err, inr, rules}
use Rattle.judging.proofs.opened.read_standard.Goals as goal

pub returns-in_err-check_table-clause-fault : goal.returns-in_err-check_table-clause-fault
returns-in_err-check_table-clause-fault g c =
    let told : c.from_residual-in_err-check_table.result ≡ Err c.in_err-check_table.field-0.0 = search rules in
    rw told (inr (c.in_ok-config.config, c.in_ok-config.ensures.read, c.in_err-check_table.ensures.fault))
