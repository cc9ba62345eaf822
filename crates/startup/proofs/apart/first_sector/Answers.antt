use Rattle.std.proofs.Common.{rules}
use Rattle.startup.proofs.FirstSector.{unread_by}
use Rattle.startup.proofs.apart.first_sector.Goals as goal

pub returns-in-Err-clause-fault : goal.returns-in-Err-clause-fault
returns-in-Err-clause-fault g c = unread_by (g.M.Medium.view c.args.disk.now) (c.read.ensures.refused.0 (search rules))
