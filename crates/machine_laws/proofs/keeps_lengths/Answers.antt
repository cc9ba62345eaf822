use Rattle.machine_laws.proofs.Sound.{IsSound-reached}
use Rattle.machine_laws.proofs.Writes.{runs_keep_lengths}
use Rattle.machine_laws.proofs.keeps_lengths.Goals as goal

pub returns : goal.returns
returns c = λ rules s labels s' reached run. runs_keep_lengths rules s labels s' (IsSound-reached rules s reached) run
