use Rattle.serving.proofs.Common.{quiet}
use Rattle.serving.proofs.Engines.{here_at}
use Rattle.serving.proofs.engine.Engine.move_here.Goals as goal

pub returns : goal.returns
returns g c =
    here_at c.args.self.now c.self.inside.full (quiet c.self.inside.stack) c.self.inside.disk c.self.inside.flying c.self.view_is c.fills.new.self (quiet c.move_here.new.stack) c.move_here.new.disk
    c.args.tag c.is_full-full.result c.in_ok-failed.failed c.syncs.result c.requires.heard c.requires.idle c.in_ok-failed.ensures.moves c.is_full-full.ensures c.fills.ensures
