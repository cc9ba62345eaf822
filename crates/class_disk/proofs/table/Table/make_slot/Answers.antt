use Rattle.class_disk.proofs.Common.{ap, arith, Slab, slab_len, Slot}
use Rattle.class_disk.proofs.SlotFilling.{few_ended}
use Rattle.class_disk.proofs.table.Table.make_slot.Goals as goal

pub overflow_sub-count : goal.overflow_sub-count
overflow_sub-count c =
    let few = few_ended c.args.self.now c.requires in
    let same = ap (λ (slots : Slab Slot). slab_len slots) c.reserve.ensures.rest_kept in
    omega (arith, few, same, c.len-count.ensures, c.len.ensures)
