use Rattle.machine_laws.proofs.Going.{labels_are_of_one}
use Rattle.machine_laws.proofs.labels_are_of_one.Goals as goal

pub returns : goal.returns
returns c = labels_are_of_one
