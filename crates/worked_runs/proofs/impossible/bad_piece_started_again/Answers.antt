use Rattle.worked_runs.proofs.Starting.{reaches_first_bad, writes_not_again, sends_the_other}
use Rattle.worked_runs.proofs.impossible.bad_piece_started_again.Goals as goal

pub returns-clause-reached : goal.returns-clause-reached
returns-clause-reached c = reaches_first_bad

pub returns-clause-never : goal.returns-clause-never
returns-clause-never c = writes_not_again

pub returns-clause-goes_on : goal.returns-clause-goes_on
returns-clause-goes_on c = sends_the_other
