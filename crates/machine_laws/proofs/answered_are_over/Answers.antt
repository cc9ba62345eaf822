use Rattle.machine_laws.proofs.Ending.{answered_over, over_writes_nothing}
use Rattle.machine_laws.proofs.answered_are_over.Goals as goal

pub returns : goal.returns
returns c = record {
  over = answered_over;
  writes = λ rules s number status bytes answered labels s' reached h run p i. over_writes_nothing number rules answered labels s' run p i (answered_over rules s number status bytes answered labels s' reached h run);
}
