use Rattle.worked_runs.proofs.Losing.{reaches_one_of_two, answers_not_the_other}
use Rattle.worked_runs.proofs.impossible.one_command_two_reads.Goals as goal

pub returns-clause-reached : goal.returns-clause-reached
returns-clause-reached c = reaches_one_of_two

pub returns-clause-never : goal.returns-clause-never
returns-clause-never c = answers_not_the_other
