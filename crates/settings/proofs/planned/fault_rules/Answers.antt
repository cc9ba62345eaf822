use Rattle.settings.proofs.FoundLists.{rules_found_fault}
use Rattle.settings.proofs.planned.fault_rules.Goals as goal

pub returns-in-Some-clause-fault : goal.returns-in-Some-clause-fault
returns-in-Some-clause-fault c =
    let found = rw c.in-Some.is at c.in_ok-items.ensures.value in
    rw (← rules_found_fault c.in-Some.items.now _ found) c.fault_rules_of.ensures.fault
