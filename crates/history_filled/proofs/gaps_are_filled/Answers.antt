use Rattle.history_filled.proofs.Finding.{gaps_filled}
use Rattle.history_filled.proofs.gaps_are_filled.Goals as goal

pub returns : goal.returns
returns c = gaps_filled
