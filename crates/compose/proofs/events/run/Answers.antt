use Rattle.compose.proofs.Lawful.{lawful_run}
use Rattle.compose.proofs.events.run.Goals as goal

pub returns-clause-lawful : goal.returns-clause-lawful
returns-clause-lawful g c =
    lawful_run c.laws_of_runs.ensures.laws c.laws_of_runs.ensures.quiet c.args.manager.now c.args.events.items c.carry_all-result.result c.carry_all-result.new.manager
    c.shows_whole.ensures.reached c.carry_all-result.ensures.carries
