use Rattle.history_loss_judge.proofs.Passing.{passed_explained}
use Rattle.history_loss_judge.proofs.passed_are_explained.Goals as goal

pub returns : goal.returns
returns c = passed_explained c.codes_tell.ensures c.shown_are_explained.ensures
