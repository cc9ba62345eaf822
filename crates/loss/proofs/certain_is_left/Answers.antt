use Rattle.loss.proofs.Along.{certain_is_left, certain_stays}
use Rattle.loss.proofs.certain_is_left.Goals as goal

pub returns : goal.returns
returns c = record { stays = certain_stays; left = certain_is_left }
