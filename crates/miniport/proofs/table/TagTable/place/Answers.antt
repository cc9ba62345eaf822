use Rattle.std.proofs.Common.{Some}
use Rattle.miniport.proofs.Recording.{keeps_none, view_set}
use Rattle.miniport.proofs.table.TagTable.place.Goals as goal

pub returns : goal.returns
returns c = view_set c.self.inside.keeps_bytes c.self.inside.slots.items c.self.inside.accepted c.self.inside.failures c.self.inside.labels.items _ c.self.view_is c.self.invariant.2 c.put.new.slots.items c.args.tag (Some c.args.on_tag) c.put.ensures.after
    (keeps_none c.args.self.now.slots c.args.tag (Some c.args.on_tag) c.requires.free)
