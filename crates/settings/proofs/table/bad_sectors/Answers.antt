use Rattle.std.proofs.Common.{◌-◌}
use Rattle.settings.specs.Faults.{is_from, is_number}
use Rattle.settings.proofs.FoundLists.{list_fault}
use Rattle.settings.proofs.table.bad_sectors.Goals as goal

pub returns-in-Some-clause-fault : goal.returns-in-Some-clause-fault
returns-in-Some-clause-fault c =
    let found = rw c.in-Some.is at c.in_ok-items.ensures.value in
    rw (← list_fault (is_number (is_from 0 (c.args.sectors - 1))) c.in-Some.items.now _ found) c.sectors_of.ensures.fault
