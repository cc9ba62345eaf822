use Rattle.machine_laws.proofs.SoloWrite.{solo_writes}
use Rattle.machine_laws.proofs.Sound.{IsSound-reached}
use Rattle.machine_laws.proofs.solo_writes.Goals as goal

pub returns : goal.returns
returns c = λ rules before faithful reached. solo_writes rules before faithful (IsSound-reached rules before reached)
