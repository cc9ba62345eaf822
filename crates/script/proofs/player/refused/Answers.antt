use Rattle.std.proofs.Common.{sym}
use Rattle.script.proofs.RefusedCalls.{refused_for}
use Rattle.script.proofs.player.refused.Goals as goal

pub returns : goal.returns
returns g c = refused_for _ _ _ c.in_ok-handle.handle c.in_ok-handle.asked c.in_ok-refusal.refusal _ (sym c.in_ok-handle.ensures) c.in_ok-refusal.ensures.right
