use Rattle.remove_lock.proofs.Steps.{word_open, word_drained}
use Rattle.remove_lock.proofs.word_means.Goals as goal

pub returns-clause-open : goal.returns-clause-open
returns-clause-open c = word_open

pub returns-clause-drained : goal.returns-clause-drained
returns-clause-drained c = word_drained
