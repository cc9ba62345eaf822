use Rattle.machine_laws.proofs.SoloRead.{solo_reads}
use Rattle.machine_laws.proofs.Sound.{IsSound-reached}
use Rattle.machine_laws.proofs.solo_reads.Goals as goal

pub returns : goal.returns
returns c = λ rules before faithful reached. solo_reads rules before faithful (IsSound-reached rules before reached)
