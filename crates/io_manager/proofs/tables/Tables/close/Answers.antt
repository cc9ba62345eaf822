-- A request that was not cancelled is in its handle's chain, each is in that of its number, and each is counted while its handle is open.
use Rattle.std.proofs.Common.{◌≤◌, sym, ◌∙◌, refl, ap, subst, length}
use Rattle.io_manager.specs.declared.tables.Tables.{Tables}
use Rattle.io_manager.proofs.Chained.{waiting_can_leave}
use Rattle.io_manager.proofs.Numbered.{numbered_can_leave}
use Rattle.io_manager.proofs.Counted.{can_count_out}
use Rattle.io_manager.proofs.Closing.{room_takes, filled_at}
use Rattle.io_manager.proofs.tables.Tables.close.Goals as goal

pub take_out_unless-requires : goal.take_out_unless-requires
take_out_unless-requires c not_yet =
    waiting_can_leave c.args.self.now.handles c.args.self.now.requests c.args.self.now.next_handle c.args.self.now.chains c.requires.chained c.in-Some.slot c.in-Some-try_remove.open
    (sym c.try_remove.ensures.value ∙ c.in-Some-try_remove.is) not_yet

pub take_out-requires : goal.take_out-requires
take_out-requires c =
    numbered_can_leave c.args.self.now.requests c.args.self.now.by_number c.requires.numbered c.in-Some.slot c.in-Some-try_remove.open
    (sym c.try_remove.ensures.value ∙ c.in-Some-try_remove.is)

pub count_out-requires : goal.count_out-requires
count_out-requires c is_open =
    can_count_out c.args.self.now.handles c.args.self.now.requests c.args.self.now.next_handle c.args.self.now.chains c.args.self.now.open_counts c.requires.chained c.requires.counted c.in-Some.slot c.in-Some-try_remove.open _
    (sym c.try_remove.ensures.value ∙ c.in-Some-try_remove.is) refl is_open

pub put_by-requires-clause-room : goal.put_by-requires-clause-room
put_by-requires-clause-room c = λ kept.
    subst (λ bytes. length bytes ≤ c.in-Some-try_remove.open.label_bytes) (sym c.brought-bytes.ensures)
    (room_takes c.in-Some-try_remove.open.kind c.args.done.status c.bytes_of-bytes.result c.in-Some-try_remove.open.label_bytes
    (λ reads succeeded. subst (λ bytes. length bytes ≤ c.in-Some-try_remove.open.label_bytes) (sym c.bytes_of-bytes.ensures)
    (filled_at c.args.self.now.requests c.args.done c.in-Some.slot c.in-Some-try_remove.open c.requires.filled c.in-Some.ensures (sym c.try_remove.ensures.value ∙ c.in-Some-try_remove.is)
    (sym (ap (λ (t : Tables). t.answered.keeps_bytes) c.count_out.ensures.after) ∙ kept) reads succeeded)))
