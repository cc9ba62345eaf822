-- The table is that of the same disk; the fault is that of the capacity, or of the last command after the capacity was told.
use Rattle.std.proofs.Common.{◌≡◌, Err, rules}
use Rattle.probe.proofs.Missing.{first_fault, last_fault}
use Rattle.probe.proofs.Reading.{same_partitions}
use Rattle.probe.proofs.probing.probe.Goals as goal

pub returns-in_err-capacity-clause-fault : goal.returns-in_err-capacity-clause-fault
returns-in_err-capacity-clause-fault g c =
    let given : c.from_residual.result ≡ Err c.in_err-capacity.field-0.0 = search rules in
    let disk = g.A.Adapter.view c.args.adapter.now in
    let after = g.A.Adapter.view c.read_capacity.new.adapter in
    rw given (first_fault disk after c.in_err-capacity.field-0.0 c.in_err-capacity.ensures.fault)

pub returns-in_err-partitions-clause-fault : goal.returns-in_err-partitions-clause-fault
returns-in_err-partitions-clause-fault g c =
    let given : c.from_residual-in_err-partitions.result ≡ Err c.in_err-partitions.field-0.0 = search rules in
    let disk = g.A.Adapter.view c.args.adapter.now in
    let between = g.A.Adapter.view c.read_capacity.new.adapter in
    let after = g.A.Adapter.view c.read_partitions.new.adapter in
    let first = c.in_ok-capacity.ensures in
    rw given (last_fault disk between after _ c.in_err-partitions.field-0.0 first.same first.tells c.in_err-partitions.ensures.fault)

pub returns-clause-probed : goal.returns-clause-probed
returns-clause-probed g c =
    let disk = g.A.Adapter.view c.args.adapter.now in
    let between = g.A.Adapter.view c.read_capacity.new.adapter in
    record {
      sector_size = c.in_ok-capacity.ensures.capacity.sector_size;
      sectors = c.in_ok-capacity.ensures.capacity.sectors;
      partitions = same_partitions disk between _ c.in_ok-partitions.partitions.items c.in_ok-capacity.ensures.same c.in_ok-partitions.ensures.partitions;
    }
