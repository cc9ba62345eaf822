use Rattle.worked_runs.proofs.Losing.{answers_once, answers_not_twice}
use Rattle.worked_runs.proofs.impossible.held_completed_twice.Goals as goal

pub returns-clause-once : goal.returns-clause-once
returns-clause-once c = answers_once

pub returns-clause-not_again : goal.returns-clause-not_again
returns-clause-not_again c = answers_not_twice
