use Rattle.std.proofs.Common.{◌≡◌, Err, ap, false, rules, sym, true}
use Rattle.disk.specs.SparseDisk.{shown}
use Rattle.machine.specs.Rules.{Rules}
use Rattle.traced.specs.Entries.{labels_of}
use Rattle.startup.specs.declared.faults.Error.TheVariants.{Start}
use Rattle.commands.specs.declared.faults.Error.TheVariants.{Startup}
use Rattle.commands.proofs.Beside.{disk_beside, run_beside}
use Rattle.commands.proofs.Blaming.{no_output, no_partition, no_room}
use Rattle.commands.proofs.clients.clients.Goals as goal

pub returns-in_err-stack-clause-fault : goal.returns-in_err-stack-clause-fault
returns-in_err-stack-clause-fault g c =
    let told : c.from_residual-in_err-stack.result ≡ Err (Startup (Start c.in_err-stack.field-0.0)) = search rules in
    rw told (c.in_ok-config.config, c.in_ok-config.ensures.read, c.in_err-stack.ensures.fault)

pub returns-then-not-has_room-clause-fault : goal.returns-then-not-has_room-clause-fault
returns-then-not-has_room-clause-fault g c =
    let lacks : c.has_room-has_room.result ≡ false = search rules in
    no_room _ _ c.in_ok-config.config c.in_ok-config.ensures.read c.has_room-has_room.result c.out_of_range.result c.has_room-has_room.ensures lacks c.out_of_range.ensures

pub returns-in-Err-NoPartition-clause-fault : goal.returns-in-Err-NoPartition-clause-fault
returns-in-Err-NoPartition-clause-fault g c =
    no_partition _ _ c.in_ok-config.config c.in_ok-config.ensures.read c.in_ok-stack.stack.rules c.in-Err-NoPartition.field-0 c.out_of_range-in-Err-NoPartition.result
    c.in_ok-stack.ensures.stack.rules c.in-Err-NoPartition.field-0-is c.in-Err-NoPartition.ensures.fault c.out_of_range-in-Err-NoPartition.ensures

pub returns-in-Err-clause-fault : goal.returns-in-Err-clause-fault
returns-in-Err-clause-fault g c =
    let has : c.has_room-has_room.result ≡ true = search rules in
    no_output _ _ c.in_ok-config.config c.in_ok-config.ensures.read c.has_room-has_room.result c.output_fault.result c.has_room-has_room.ensures has c.output_fault.ensures

pub run-requires-clause-disk : goal.run-requires-clause-disk
run-requires-clause-disk g c κs within =
    disk_beside c.in_ok-config.config c.in_ok-stack.stack (shown c.in_ok-stack.disk) c.in_ok-config.ensures.in_range c.in_ok-stack.ensures.stack c.in_ok-stack.ensures.disk c.in_ok-stack.ensures.count

pub run-requires-clause-depth : goal.run-requires-clause-depth
run-requires-clause-depth g c κs within = sym (ap (λ (r : Rules). r.depth) c.in_ok-stack.ensures.stack.rules)

pub returns-in-Ok-write_tally-clause-run : goal.returns-in-Ok-write_tally-clause-run
returns-in-Ok-write_tally-clause-run g c =
    run_beside _ c.in_ok-config.config c.in_ok-stack.stack (shown c.in_ok-stack.disk) (labels_of c.in-Ok.done.trace.items) c.in-Ok.done.entries.items (shown c.in-Ok.done.medium).sectors
    c.in_ok-config.ensures.read c.in_ok-stack.ensures.stack c.in_ok-stack.ensures.disk c.in-Ok.ensures.run
