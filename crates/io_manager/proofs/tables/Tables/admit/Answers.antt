-- The handle is open, so its chain takes one more, and so does that of the number.
use Rattle.std.proofs.Common.{◌≤◌, arith, slice_index_or, subst, sym, ℕ}
use Rattle.io_manager.specs.inside.Chains.{CanJoin}
use Rattle.io_manager.proofs.Chained.{open_in, open_can_join}
use Rattle.io_manager.proofs.Numbered.{number_can_join}
use Rattle.io_manager.proofs.Counted.{few_open}
use Rattle.io_manager.proofs.tables.Tables.admit.Goals as goal

pub overflow_add-self-2 : goal.overflow_add-self-2
overflow_add-self-2 c =
    let few : slice_index_or c.args.self.now.open_counts c.args.handle.slot 0 ≤ 64 =
    few_open c.args.self.now.handles c.args.self.now.requests c.args.self.now.open_counts c.requires.counted c.args.handle.slot c.args.handle.number (open_in c.args.self.now.handles c.args.handle c.requires.open) in
    omega (arith, few)

pub put_last-requires : goal.put_last-requires
put_last-requires c =
    open_can_join c.args.self.now.handles c.args.self.now.requests c.args.self.now.next_handle c.args.self.now.chains c.requires.chained c.args.handle.slot c.args.handle.number c.insert_reserved-slot.result
    (open_in c.args.self.now.handles c.args.handle c.requires.open)
    (omega (arith, c.insert_reserved-slot.ensures.key_in_range, c.insert_reserved-slot.ensures.capacity, c.requires.slots))

pub put_last-requires-2 : goal.put_last-requires-2
put_last-requires-2 c =
    subst (λ (r : ℕ). CanJoin c.args.self.now.by_number r c.insert_reserved-slot.result) (sym c.remainder_of.ensures.is)
    (number_can_join c.args.self.now.requests c.args.self.now.by_number c.requires.numbered c.args.self.now.next_request c.insert_reserved-slot.result
    (omega (arith, c.insert_reserved-slot.ensures.key_in_range, c.insert_reserved-slot.ensures.capacity, c.requires.slots)))
