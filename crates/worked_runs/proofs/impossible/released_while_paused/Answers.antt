use Rattle.worked_runs.proofs.Starting.{reaches_held_behind, starts_not_behind, reaches_held_alone, starts_not_alone}
use Rattle.worked_runs.proofs.impossible.released_while_paused.Goals as goal

pub returns-clause-reached : goal.returns-clause-reached
returns-clause-reached c = reaches_held_behind

pub returns-clause-other_out : goal.returns-clause-other_out
returns-clause-other_out c = starts_not_behind

pub returns-clause-alone_reached : goal.returns-clause-alone_reached
returns-clause-alone_reached c = reaches_held_alone

pub returns-clause-alone : goal.returns-clause-alone
returns-clause-alone c = starts_not_alone
