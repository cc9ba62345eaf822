use Rattle.machine_laws.proofs.Removal.{removed_are_empty, removed_is_last}
use Rattle.machine_laws.proofs.removed_is_last.Goals as goal

pub returns : goal.returns
returns c = record { empty = removed_are_empty; last = removed_is_last }
