use Rattle.hold_filter.proofs.Queued.{found_held}
use Rattle.hold_filter.proofs.table.Table.find_held.Goals as goal

pub returns-clause-found : goal.returns-clause-found
returns-clause-found c = found_held c.args.self.now.held c.find.new.self c.args.number c.find.result c.find.ensures
