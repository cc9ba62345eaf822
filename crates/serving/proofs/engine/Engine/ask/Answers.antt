use Rattle.serving.proofs.Common.{refl, quiet}
use Rattle.serving.proofs.Engines.{kept_so}
use Rattle.serving.proofs.engine.Engine.ask.Goals as goal

pub invariant_of-self : goal.invariant_of-self
invariant_of-self g c =
    kept_so (quiet c.self.inside.stack) (quiet c.ask.new.stack) c.self.inside.disk c.self.inside.movers c.self.inside.movers c.self.invariant refl
    (c.ask.ensures.stands c.self.inside.disk c.self.invariant.stands) c.ask.ensures.taken
