use Rattle.worked_runs.proofs.Starting.{never_opens_past_end, reaches_last_sector, writes_not_past_end}
use Rattle.worked_runs.proofs.impossible.start_checked_not_end.Goals as goal

pub returns-clause-not_opened : goal.returns-clause-not_opened
returns-clause-not_opened c = never_opens_past_end

pub returns-clause-reached : goal.returns-clause-reached
returns-clause-reached c = reaches_last_sector

pub returns-clause-not_sent : goal.returns-clause-not_sent
returns-clause-not_sent c = writes_not_past_end
