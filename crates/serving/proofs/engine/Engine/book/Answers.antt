use Rattle.serving.proofs.Common.{ap, quiet}
use Rattle.serving.proofs.Engines.{brings_at, lost_at}
use Rattle.serving.proofs.engine.Engine.book.Goals as goal

pub returns-in_default-take_back : goal.returns-in_default-take_back
returns-in_default-take_back g c =
    lost_at c.args.self.now c.self.inside.full (quiet c.self.inside.stack) c.self.inside.disk c.self.inside.flying c.self.view_is (quiet c.take_back.new.stack) c.end.new.self
    c.in-Some.at c.tag-tag.result c.requires.heard c.in-Some.ensures (ap quiet c.in_default-take_back.ensures.moves) c.end.ensures

pub returns : goal.returns
returns g c =
    brings_at c.args.self.now c.self.inside.full (quiet c.self.inside.stack) c.self.inside.disk c.self.inside.flying c.self.view_is c.fills.new.self (quiet c.take_back.new.stack) c.end.new.self
    c.check.new.done c.in-Some.at c.tag-tag.result c.is_full-full.result c.in-Some-take_back.failed c.syncs-syncs.result c.requires.heard c.in-Some.ensures c.tag-tag.ensures
    c.in-Some-take_back.ensures.moves c.is_full-full.ensures c.end.ensures c.fills.ensures
