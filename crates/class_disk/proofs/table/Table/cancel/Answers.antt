use Rattle.class_disk.proofs.Common.{true, ap, ◌∙◌, Irp, opened_of, payload_of}
use Rattle.class_disk.proofs.Replacing.{stands_there}
use Rattle.class_disk.proofs.Cancelling.{cancels_there}
use Rattle.class_disk.proofs.table.Table.cancel.Goals as goal

pub take_open-transfer-requires : goal.take_open-transfer-requires
take_open-transfer-requires c = let e = c.if-not-can_cancel.ensures in stands_there c.args.self.now c.args.slot e.o e.is_open

pub returns : goal.returns
returns c =
    cancels_there c.args.self.now c.take_open-transfer.new.self c.put_open.new.self c.args.slot c.args.number c.take_open-transfer.result _ c.if-not-can_cancel.ensures
    c.take_open-transfer.ensures.was c.take_open-transfer.ensures.gone
    c.put_open.ensures
    (ap (λ (x : Irp). record (opened_of c.take_open-transfer.result) { irp = record x { payload = payload_of c.take_open-transfer.result.lent c.take_open-transfer.result.noted.bytes x.payload } })
    (c.mark_cancelled.ensures ∙ ap (λ (x : Irp). record x { cancelled = true }) c.deref_mut.ensures.value))
