use Rattle.std.proofs.Common.{sym, ap, ◌∙◌, rules, Some}
use Rattle.class_disk.proofs.SlotFilling.{reserved_there, removes_reserved}
use Rattle.class_disk.proofs.table.Table.give_up.Goals as goal

pub unreachable-requires : goal.unreachable-requires
unreachable-requires c =
    let (p, there) = reserved_there c.args.self.now c.args.slot c.requires in
    search rules

pub returns : goal.returns
returns c =
    removes_reserved c.args.self.now c.try_remove.new.self c.args.slot c.in-Some-Reserved.places c.try_remove.ensures.capacity
    (sym c.try_remove.ensures.value ∙ c.in-Some-Reserved.is ∙ ap Some c.in-Some-Reserved.field-0-is) c.try_remove.ensures.updates
