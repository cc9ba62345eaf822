use Rattle.history_loss_sector.proofs.Viewing.{called_is}
use Rattle.history_loss_sector.proofs.seen.Seen.call.Goals as goal

pub returns : goal.returns
returns c =
    called_is c.self.inside.all.seen.start c.self.inside.all.seen.sights c.self.inside.steady.seen.sights c.self.inside.own.items c.push.new.self.items _ c.args.self.now c.self.view_is c.in_ok-push.ensures.items
