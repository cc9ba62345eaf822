use Rattle.class_disk.proofs.Common.{sym, subst, DeviceView, CancelsIfOpen, CancelsAt, books_of}
use Rattle.class_disk.proofs.CancellingAt.{none_cancellable, by_spot}
use Rattle.class_disk.proofs.layer.DiskDevice.cancel.Goals as goal

pub returns-in-Some : goal.returns-in-Some
returns-in-Some g c = record {
  cancels =
      subst (λ (x : DeviceView). CancelsIfOpen x c.args.number c.cancel_at.new.self) c.self.view_is
      (by_spot (g.D.Shown.view c.self.inside.extension.device) (books_of c.self.inside.extension.table) c.args.number c.in-Some.slot c.cancel_at.new.self c.in-Some.ensures.found
      (subst (λ (x : DeviceView). CancelsAt x c.in-Some.slot c.args.number c.cancel_at.new.self) (sym c.self.view_is) c.cancel_at.ensures.cancels));
}

pub returns-in_default : goal.returns-in_default
returns-in_default g c = rw (← c.self.view_is) (record {
  cancels = none_cancellable (g.D.Shown.view c.self.inside.extension.device) (books_of c.self.inside.extension.table) c.args.number c.in_default.ensures.none;
})
