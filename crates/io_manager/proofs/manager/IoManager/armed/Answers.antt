use Rattle.std.proofs.Common.{MatchOption, subst}
use Rattle.io_manager.proofs.Common.{HasNoneFresh, IsArmed, ManagerView}
use Rattle.io_manager.proofs.manager.IoManager.armed.Goals as goal

pub returns : goal.returns
returns g c = subst (λ (v : ManagerView). MatchOption c.armed.result (HasNoneFresh v.adapter c.args.tag) (λ found. IsArmed v.adapter c.args.tag found.0 found.1.now)) c.self.view_is c.armed.ensures
