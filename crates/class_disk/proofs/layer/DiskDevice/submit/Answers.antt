-- The request is opened, its parts are sent, and the layer below is asked for what came back: nothing.
use Rattle.std.proofs.Common.{◌≤◌, ◌<◌, refl, sym, subst}
use Rattle.class_disk.proofs.Common.{IsFalse, DeviceView, IsReady, books_of}
use Rattle.class_disk.proofs.Standing.{rising, apart_in}
use Rattle.class_disk.proofs.SubmitDone.{opening, can_settle, all_done, hand_again, carries_there, submits_there, few_there}
use Rattle.class_disk.proofs.layer.DiskDevice.submit.Goals as goal

pub open-requires-clause-ready : goal.open-requires-clause-ready
open-requires-clause-ready g c = subst (λ (x : DeviceView). IsReady x.rooms c.args.room.spot) (sym c.self.view_is) c.requires.ready

pub open-requires-clause-few : goal.open-requires-clause-few
open-requires-clause-few g c = few_there (g.D.Shown.view c.self.inside.extension.device) (books_of c.self.inside.extension.table) _ c.self.view_is c.requires.few

pub send_parts-requires-clause-opening : goal.send_parts-requires-clause-opening
send_parts-requires-clause-opening g c =
    opening _ (books_of c.self.inside.extension.table) c.self.invariant.in_hand c.args.room.spot c.args.irp.value (books_of c.open.new.self) c.open.ensures
    (subst (λ (x : DeviceView). x.state.next_request ≤ c.args.irp.value.number) (sym c.self.view_is) c.requires.number)
    (subst (λ (x : DeviceView). IsFalse x.state.removing) (sym c.self.view_is) c.requires.not_removing) c.requires.not_cancelled
    (carries_there (g.D.Shown.view c.self.inside.extension.device) (books_of c.self.inside.extension.table) c.args.room.spot c.args.irp.value (books_of c.open.new.self) c.open.ensures _ c.self.view_is c.requires.carries)
    (subst (λ (x : DeviceView). x.submitted < x.most) (sym c.self.view_is) c.requires.few)

pub settle-requires : goal.settle-requires
settle-requires g c =
    can_settle _ (books_of c.self.inside.extension.table) c.self.invariant.in_hand c.args.room.spot c.args.irp.value (books_of c.open.new.self) c.open.ensures
    (subst (λ (x : DeviceView). x.state.next_request ≤ c.args.irp.value.number) (sym c.self.view_is) c.requires.number)
    (subst (λ (x : DeviceView). IsFalse x.state.removing) (sym c.self.view_is) c.requires.not_removing) c.requires.not_cancelled
    (carries_there (g.D.Shown.view c.self.inside.extension.device) (books_of c.self.inside.extension.table) c.args.room.spot c.args.irp.value (books_of c.open.new.self) c.open.ensures _ c.self.view_is c.requires.carries)
    (subst (λ (x : DeviceView). x.submitted < x.most) (sym c.self.view_is) c.requires.few)
    (rising 0 c.open.new.self.slots.slots) _ (books_of c.send_parts.new.self.table) (λ from labels so_far opening. c.send_parts.ensures from labels so_far)

pub invariant_of-self : goal.invariant_of-self
invariant_of-self g c = record {
  takes = c.self.invariant.takes;
  in_hand = hand_again _ (books_of c.self.inside.extension.table) c.self.invariant.in_hand c.args.room.spot c.args.irp.value (books_of c.open.new.self) c.open.ensures
      (subst (λ (x : DeviceView). x.state.next_request ≤ c.args.irp.value.number) (sym c.self.view_is) c.requires.number)
      (subst (λ (x : DeviceView). IsFalse x.state.removing) (sym c.self.view_is) c.requires.not_removing) c.requires.not_cancelled
      (carries_there (g.D.Shown.view c.self.inside.extension.device) (books_of c.self.inside.extension.table) c.args.room.spot c.args.irp.value (books_of c.open.new.self) c.open.ensures _ c.self.view_is c.requires.carries)
      (subst (λ (x : DeviceView). x.submitted < x.most) (sym c.self.view_is) c.requires.few)
      (rising 0 c.open.new.self.slots.slots) _ (books_of c.send_parts.new.self.table) (λ from labels so_far opening. c.send_parts.ensures from labels so_far)
      _ (books_of c.settle.new.self.table) c.settle.ensures (apart_in _ c.send_parts.new.self.table.slots.slots refl refl);
}

pub returns : goal.returns
returns g c = rw (← c.self.view_is) (record {
  submits =
      submits_there (g.D.Shown.view c.self.inside.extension.device) (books_of c.self.inside.extension.table) c.args.room.spot c.args.irp.value (books_of c.open.new.self) c.open.ensures _
      (all_done _ (books_of c.self.inside.extension.table) c.self.invariant.in_hand c.args.room.spot c.args.irp.value (books_of c.open.new.self) c.open.ensures
      (subst (λ (x : DeviceView). x.state.next_request ≤ c.args.irp.value.number) (sym c.self.view_is) c.requires.number)
      (subst (λ (x : DeviceView). IsFalse x.state.removing) (sym c.self.view_is) c.requires.not_removing) c.requires.not_cancelled
      (carries_there (g.D.Shown.view c.self.inside.extension.device) (books_of c.self.inside.extension.table) c.args.room.spot c.args.irp.value (books_of c.open.new.self) c.open.ensures _ c.self.view_is c.requires.carries)
      (subst (λ (x : DeviceView). x.submitted < x.most) (sym c.self.view_is) c.requires.few)
      (rising 0 c.open.new.self.slots.slots) _ (books_of c.send_parts.new.self.table) (λ from labels so_far opening. c.send_parts.ensures from labels so_far)
      _ (books_of c.settle.new.self.table) c.settle.ensures);
})
