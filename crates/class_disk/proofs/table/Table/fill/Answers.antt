use Rattle.class_disk.proofs.SlotFilling.{adds_reserved}
use Rattle.class_disk.proofs.table.Table.fill.Goals as goal

pub returns : goal.returns
returns c = let i = c.insert_reserved-slot.ensures in adds_reserved c.args.self.now c.insert_reserved-slot.new.self c.args.slot c.insert_reserved-slot.result c.args.places c.requires i.key i.was_vacant i.capacity i.updates
