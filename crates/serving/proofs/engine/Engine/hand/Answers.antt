use Rattle.std.proofs.Common.{rules}
use Rattle.serving.proofs.Common.{refl, quiet}
use Rattle.serving.proofs.Engines.{hands_at}
use Rattle.serving.proofs.engine.Engine.hand.Goals as goal

pub returns-in-Some-hand : goal.returns-in-Some-hand
returns-in-Some-hand g c =
    hands_at c.args.self.now c.self.inside.full (quiet c.self.inside.stack) c.self.inside.disk c.self.inside.flying c.self.view_is c.begin.new.self c.args.tag c.in-Some-hand.at
    (record { tag = c.args.tag; piece = c.in-Some.piece; srb = c.in-Ok.srb }) c.in-Some.srb.now c.in-Some-flown_of.flown
    (c.is_out.ensures (search rules)) (c.has_room_for.ensures (search rules)) refl c.in-Ok.ensures c.in-Some-flown_of.ensures c.begin.ensures
