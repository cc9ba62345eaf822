use Rattle.machine_laws.proofs.SoloWrite.{failed_writes}
use Rattle.machine_laws.proofs.Sound.{IsSound-reached}
use Rattle.machine_laws.proofs.failed_writes.Goals as goal

pub returns : goal.returns
returns c = λ rules before reached. failed_writes rules before (IsSound-reached rules before reached)
