use Rattle.cancel_marks.proofs.Steps.{word_unmarked, word_marked}
use Rattle.cancel_marks.proofs.word_means.Goals as goal

pub returns-clause-unmarked : goal.returns-clause-unmarked
returns-clause-unmarked c = word_unmarked

pub returns-clause-marked : goal.returns-clause-marked
returns-clause-marked c = word_marked
