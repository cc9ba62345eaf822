use Rattle.settings.proofs.FoundLists.{partitions_fault}
use Rattle.settings.proofs.table.partitions.Goals as goal

pub returns-in-Some-clause-fault : goal.returns-in-Some-clause-fault
returns-in-Some-clause-fault c =
    let found = rw c.in-Some.is at c.in_ok-items.ensures.value in
    rw (← partitions_fault c.in-Some.items.now _ found) c.partitions_of.ensures.fault
