use Rattle.std.proofs.Common.{◌∙◌}
use Rattle.io_manager.proofs.TakenOut.{shown_first}
use Rattle.io_manager.proofs.manager.IoManager.take_shown.Goals as goal

pub returns : goal.returns
returns g c = record {
  takes =
      shown_first c.self.inside.parts.limits (g.D.Shown.view c.self.inside.parts.device) c.self.inside.parts.tables c.take_first.new.self c.take_first.result c.args.self.now c.self.view_is
      (c.self.invariant.kept.sound.places.label_bytes ∙ c.self.invariant.kept.sound.fits.keeps_bytes)
      c.take_first.ensures.takes c.take_first.ensures.same;
}
