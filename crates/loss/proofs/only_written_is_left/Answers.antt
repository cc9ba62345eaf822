use Rattle.loss.proofs.Determined.{tables_are_one}
use Rattle.loss.proofs.Written.{only_written}
use Rattle.loss.proofs.only_written_is_left.Goals as goal

pub returns : goal.returns
returns c = record { written = only_written; determined = tables_are_one }
