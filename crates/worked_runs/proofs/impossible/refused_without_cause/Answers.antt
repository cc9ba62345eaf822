use Rattle.worked_runs.proofs.Losing.{refuses_not_without_cause}
use Rattle.worked_runs.proofs.impossible.refused_without_cause.Goals as goal

pub returns : goal.returns
returns c = refuses_not_without_cause
