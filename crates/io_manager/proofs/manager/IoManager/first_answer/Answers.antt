use Rattle.std.proofs.Common.{refl, subst, option_copied}
use Rattle.io_manager.proofs.Common.{ManagerView, IsNextAnswer, view_of}
use Rattle.io_manager.proofs.TakenOut.{seen_first}
use Rattle.io_manager.proofs.manager.IoManager.first_answer.Goals as goal

pub returns : goal.returns
returns g c = record {
  next =
      subst (λ (v : ManagerView). IsNextAnswer v (option_copied c.front.result)) c.self.view_is
      (seen_first (view_of c.self.inside.parts.limits (g.D.Shown.view c.self.inside.parts.device) c.self.inside.parts.tables) c.self.inside.parts.tables.untaken.items c.front.result refl c.self.invariant.kept.sound.rising c.front.ensures.item.3);
}
