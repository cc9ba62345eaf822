use Rattle.machine_laws.proofs.Sectors.{step_arrays, step_sector}
use Rattle.machine_laws.proofs.Sound.{IsSound-reached}
use Rattle.machine_laws.proofs.Writes.{runs_keep_sectors}
use Rattle.machine_laws.proofs.keeps_sectors.Goals as goal

pub returns : goal.returns
returns c = record {
  step = λ rules s label s' reached h p i. step_sector rules s label s' (IsSound-reached rules s reached) (step_arrays rules s label s' h) p i;
  run = λ rules s labels s' reached run p i. runs_keep_sectors rules s labels s' (IsSound-reached rules s reached) run p i;
}
