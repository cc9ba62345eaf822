use Rattle.std.proofs.Common.{rules, Some, sym, ◌∙◌, ap}
use Rattle.irp.specs.declared.Irp.{Irp}
use Rattle.class_disk.proofs.SlotFilling.{ready_there, opens_at}
use Rattle.class_disk.proofs.table.Table.open.Goals as goal

pub unreachable-requires : goal.unreachable-requires
unreachable-requires c =
    let (p, there) = ready_there c.args.self.now c.args.slot c.requires.ready in
    search rules

pub returns : goal.returns
returns c =
    opens_at c.args.self.now c.try_remove.new.self c.insert_reserved-slot.new.self c.args.slot c.insert_reserved-slot.result _ c.in-Some-Reserved.places c.new.result c.args.irp.value (c.insert_reserved-slot.ensures.capacity ∙ c.try_remove.ensures.capacity) c.requires.ready
    (sym c.try_remove.ensures.value ∙ c.in-Some-Reserved.is ∙ ap Some c.in-Some-Reserved.field-0-is) c.try_remove.ensures.updates c.in-Some-Reserved.ensures.key_is_next
    c.insert_reserved-slot.ensures.key c.insert_reserved-slot.ensures.updates (ap (λ (x : Irp). x.number) c.deref.ensures) c.new.ensures
