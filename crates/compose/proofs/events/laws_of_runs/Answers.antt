use Rattle.compose.proofs.Removed.{quiet_once_removed}
use Rattle.compose.proofs.Lawful.{obey}
use Rattle.compose.proofs.events.laws_of_runs.Goals as goal

pub returns-clause-laws : goal.returns-clause-laws
returns-clause-laws c =
    obey c.answered_was_moved.ensures c.acts_were_asked.ensures c.solo_reads.ensures c.solo_writes.ensures c.failed_writes.ensures c.keeps_arrays.ensures.step c.keeps_sectors.ensures.step
    c.answered_are_over.ensures.writes c.labels_are_of_one.ensures c.goes_on.ensures.run

pub returns-clause-quiet : goal.returns-clause-quiet
returns-clause-quiet c = quiet_once_removed c.removed_is_last.ensures.last c.goes_on.ensures.splits
