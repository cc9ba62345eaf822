use Rattle.std.proofs.Common.{refl}
use Rattle.class_disk.proofs.EndedSlots.{first_open, takes_ended}
use Rattle.class_disk.proofs.table.Table.take_ended.Goals as goal

pub take_open-transfer-requires : goal.take_open-transfer-requires
take_open-transfer-requires c = first_open c.args.self.now c.pop_front.new.self.items c.in_ok-slot.slot c.in_ok-slot.ensures.items c.requires

pub returns-clause-takes : goal.returns-clause-takes
returns-clause-takes c =
    takes_ended c.args.self.now _ c.take_open-transfer.new.self c.in_ok-slot.slot c.take_open-transfer.result refl c.in_ok-slot.ensures.items c.pop_front.ensures.capacity
    c.take_open-transfer.ensures.was c.take_open-transfer.ensures.gone
