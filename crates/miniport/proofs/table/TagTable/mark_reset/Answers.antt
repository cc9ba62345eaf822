use Rattle.miniport.proofs.Recording.{marked}
use Rattle.miniport.proofs.table.TagTable.mark_reset.Goals as goal

pub returns-in-Some : goal.returns-in-Some
returns-in-Some c = λ on there. marked c.self.inside.keeps_bytes c.self.inside.slots.items c.self.inside.accepted c.self.inside.failures c.self.inside.labels.items _ c.self.view_is c.self.invariant.2 c.taken.new.slots.items c.put.new.slots.items c.args.tag c.args.progress c.in-Some.on_tag on
    c.taken.ensures.after c.put.ensures.after c.in-Some.ensures.piece there c.requires.acted
