-- The packet that is handed up is a part's: its part goes below again, or ends.
use Rattle.class_disk.proofs.Common.{subst, Irp, EndsAs, GoesAgain, books_of}
use Rattle.class_disk.proofs.Standing.{rising}
use Rattle.class_disk.proofs.Handed.{finished_by}
use Rattle.class_disk.proofs.TakingOne.{is_open_there, end_needs, end_place, owner_inside, one_ended, again_needs, one_again}
use Rattle.class_disk.proofs.Extension.take_one.Goals as goal

pub finished-requires : goal.finished-requires
finished-requires g c =
    let (first, labels, m) = c.requires.midway in
    finished_by _ c.in-Some.climb _ _ c.in-Some.ensures.hands_up m.below.topmost

pub owner-id-requires : goal.owner-id-requires
owner-id-requires g c =
    let (first, labels, m) = c.requires.midway in
    owner_inside c.args.way (rising 0 c.args.self.now.table.slots.slots) m (record { irp = c.finished.result; room = c.in-Some.room }) c.in-Some.ensures.hands_up

pub outcome-requires : goal.outcome-requires
outcome-requires g c =
    let (first, labels, m) = c.requires.midway in
    is_open_there c.args.way (rising 0 c.args.self.now.table.slots.slots) m (record { irp = c.finished.result; room = c.in-Some.room }) c.in-Some.ensures.hands_up c.finished.ensures c.owner-id.result c.owner-id.ensures

pub send_again-requires-clause-can : goal.send_again-requires-clause-can
send_again-requires-clause-can g c =
    let (first, labels, m) = c.requires.midway in
    again_needs c.args.way (rising 0 c.args.self.now.table.slots.slots) m (record { irp = c.finished.result; room = c.in-Some.room }) c.in-Some.ensures.hands_up c.finished.ensures c.owner-id.result c.owner-id.ensures c.requires.takes.takes c.shows_order.ensures.order
    (λ o is. subst (λ (x : Irp). GoesAgain c.args.way o.irp.cancelled c.args.self.now.table.removing o.restarts x.io_status.status) c.deref.ensures (c.in-None.ensures.again o is))

pub end-requires-clause-part : goal.end-requires-clause-part
end-requires-clause-part g c =
    let (first, labels, m) = c.requires.midway in
    end_needs c.args.way (rising 0 c.args.self.now.table.slots.slots) m (record { irp = c.finished.result; room = c.in-Some.room }) c.in-Some.ensures.hands_up c.finished.ensures c.owner-id.result c.owner-id.ensures

pub end-requires-clause-place : goal.end-requires-clause-place
end-requires-clause-place g c =
    let (first, labels, m) = c.requires.midway in
    end_place c.args.way (rising 0 c.args.self.now.table.slots.slots) m (record { irp = c.finished.result; room = c.in-Some.room }) c.in-Some.ensures.hands_up c.finished.ensures c.owner-id.result c.owner-id.ensures

pub returns-in-None : goal.returns-in-None
returns-in-None g c =
    let (first, labels, m) = c.requires.midway in
    one_again c.args.way (rising 0 c.args.self.now.table.slots.slots) m (record { irp = c.finished.result; room = c.in-Some.room }) c.in-Some.ensures.hands_up c.finished.ensures c.owner-id.result c.owner-id.ensures c.requires.takes.takes c.shows_order.ensures.order
    (λ o is. subst (λ (x : Irp). GoesAgain c.args.way o.irp.cancelled c.args.self.now.table.removing o.restarts x.io_status.status) c.deref.ensures (c.in-None.ensures.again o is)) _ (books_of c.send_again.new.self.table) c.send_again.ensures

pub returns-in-Some-outcome : goal.returns-in-Some-outcome
returns-in-Some-outcome g c =
    let (first, labels, m) = c.requires.midway in
    one_ended c.args.way (rising 0 c.args.self.now.table.slots.slots) m (record { irp = c.finished.result; room = c.in-Some.room }) c.in-Some.ensures.hands_up c.finished.ensures c.owner-id.result c.owner-id.ensures c.requires.takes.takes c.shows_order.ensures.order c.in-Some-outcome.outcome
    (λ o is. let e = c.in-Some-outcome.ensures.ends o is in (subst (λ (x : Irp). EndsAs c.args.way x.io_status.status c.in-Some-outcome.outcome) c.deref.ensures e.0, e.1)) (books_of c.end.new.self) c.end.ensures
