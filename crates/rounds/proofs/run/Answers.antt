use Rattle.std.proofs.Common.{◌∙◌, List, ℕ}
use Rattle.rounds.proofs.Missing.{no_partition}
use Rattle.rounds.proofs.run.Goals as goal

pub returns-in-Err-NoPartition-clause-fault : goal.returns-in-Err-NoPartition-clause-fault
returns-in-Err-NoPartition-clause-fault g c =
    no_partition c.args.over.stack.rules _ c.as_slice.result.now c.in-Err-NoPartition.field-0 (◌∙◌ {A = List ℕ} c.as_slice.ensures.value (c.in-Ok.ensures.items_if_clones_equal (λ y h. h)))
    c.in-Err-NoPartition.field-0-is c.in-Err-NoPartition.ensures.fault
