use Rattle.class_disk.proofs.Common.{ap, refl, sym, subst, DeviceView, near_after, near_same, Table, MakesNone}
use Rattle.class_disk.proofs.Making.{none_asked, none_there, room_made, room_refused}
use Rattle.class_disk.proofs.Reserving.{on_err}
use Rattle.class_disk.proofs.Extension.reserve_packet.Goals as goal

pub returns-in_err-irp-clause-refused : goal.returns-in_err-irp-clause-refused
returns-in_err-irp-clause-refused g c = on_err _ (none_asked _ _)

pub returns-in_err-room-clause-refused : goal.returns-in_err-room-clause-refused
returns-in_err-room-clause-refused g c =
    on_err _ (none_there _ _ c.args.self.now.table.owners.items c.in_err-room.ensures.refused c.shows_order.ensures.order)

pub returns-in_default-clause-refused : goal.returns-in_default-clause-refused
returns-in_default-clause-refused g c =
    subst (λ (t : Table). MakesNone (g.D.Shown.view c.args.self.now.device) c.args.self.now.table.owners.items (g.D.Shown.view c.give_back.new.self.device) t.owners.items) (sym c.give_back.ensures.table)
    (room_refused _ _ c.args.self.now.table.owners.items c.own.new.self.owners.items c.args.request.now c.in_ok-room.room.spot c.in_ok-room.ensures.reserved c.shows_order.ensures.order
    _ c.in_default.ensures.keeps c.give_back.ensures.frees c.give_back.ensures.order)

pub returns-clause-makes : goal.returns-clause-makes
returns-clause-makes g c =
    room_made _ _ c.args.self.now.table.owners.items c.own.new.self.owners.items c.args.request.now c.in_ok-room.room.spot c.in_ok-room.ensures.reserved c.shows_order.ensures.order c.args.id c.in-Ok.ensures.owns

pub returns-in_err-irp-clause-near : goal.returns-in_err-irp-clause-near
returns-in_err-irp-clause-near g c = near_same (g.D.Shown.view c.args.self.now.device) (g.D.Shown.view c.args.self.now.device) c.args.request.now refl

pub returns-in_default-clause-near : goal.returns-in_default-clause-near
returns-in_default-clause-near g c =
    near_after (g.D.Shown.view c.args.self.now.device) (g.D.Shown.view c.reserve-reserved.new.self) (g.D.Shown.view c.give_back.new.self.device) c.args.request.now
    (ap (λ (x : DeviceView). x.adapter) c.give_back.ensures.frees.same) c.reserve-reserved.ensures.near
