-- The fault is that of the first command, or of the second where the disk is long.
use Rattle.std.proofs.Common.{◌≡◌, ◌≤◌, ◌^◌, Err, rules, arith, true}
use Rattle.probe.specs.Capacity.{is_long}
use Rattle.probe.proofs.Missing.{short_fault, long_fault, not_told}
use Rattle.probe.proofs.capacity.read_capacity.Goals as goal

pub returns-in_err-short-clause-fault : goal.returns-in_err-short-clause-fault
returns-in_err-short-clause-fault g c =
    let given : c.from_residual.result ≡ Err c.in_err-short.field-0.0 = search rules in
    let disk = g.A.Adapter.view c.args.adapter.now in
    let after = g.A.Adapter.view c.read_short_capacity.new.adapter in
    rw given (short_fault disk after c.in_err-short.field-0.0 c.in_err-short.ensures.fault)

pub returns-in_err-long-clause-fault : goal.returns-in_err-long-clause-fault
returns-in_err-long-clause-fault g c =
    let given : c.from_residual-in_err-long.result ≡ Err c.in_err-long.field-0.0 = search rules in
    let disk = g.A.Adapter.view c.args.adapter.now in
    let between = g.A.Adapter.view c.read_short_capacity.new.adapter in
    let after = g.A.Adapter.view c.read_long_capacity.new.adapter in
    let high : 2 ^ 32 ≤ c.in_ok-short.short.sectors = omega arith in
    let long : is_long disk ≡ true = not_told disk c.in_ok-short.short c.in_ok-short.ensures.capacity high in
    rw given (long_fault disk between after c.in_err-long.field-0.0 long c.in_ok-short.ensures.same c.in_ok-short.ensures.exchanged c.in_err-long.ensures.fault)
