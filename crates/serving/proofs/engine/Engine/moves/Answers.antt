use Rattle.serving.proofs.Engines.{heard_still, moves_then}
use Rattle.serving.proofs.engine.Engine.moves.Goals as goal

pub moves_here-requires : goal.moves_here-requires
moves_here-requires g c = record { heard = heard_still c.args.self.now c.hands.new.self c.hands.ensures c.requires.heard }

pub returns : goal.returns
returns g c = moves_then c.args.self.now c.hands.new.self c.moves_here.new.self c.moves_here.result c.hands.ensures c.moves_here.ensures
