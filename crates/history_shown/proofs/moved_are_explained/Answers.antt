use Rattle.history_shown.proofs.Explaining.{moved_explained}
use Rattle.history_shown.proofs.moved_are_explained.Goals as goal

pub returns : goal.returns
returns c = moved_explained
