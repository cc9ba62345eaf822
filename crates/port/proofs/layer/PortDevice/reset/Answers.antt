use Rattle.std.proofs.Common.{◌+◌, ◌≤◌, subst, sym}
use Rattle.port.specs.inside.TableView.{books_of}
use Rattle.port.specs.Shown.{reserved_of}
use Rattle.device.specs.View.{DeviceView, label_places}
use Rattle.port.proofs.Resetting.{reset_all}
use Rattle.port.proofs.Seeing.{shown_is}
use Rattle.port.proofs.layer.PortDevice.reset.Goals as goal

pub invariant_of-self : goal.invariant_of-self
invariant_of-self g c =
    (reset_all (books_of c.self.inside.parts.queues) (g.A.Adapter.view c.self.inside.parts.adapter) (g.A.Adapter.view c.reset.new.self) _ c.self.invariant (subst (λ (x : DeviceView). label_places x + x.rules.depth ≤ 64) (sym (shown_is c.self.view_is)) c.requires.label_place) c.reset.ensures.resets c.reset.ensures.order).rooms (reserved_of (books_of c.self.inside.parts.queues).rooms) c.self.invariant

pub returns : goal.returns
returns g c =
    rw (← shown_is c.self.view_is) (record { resets = (reset_all (books_of c.self.inside.parts.queues) (g.A.Adapter.view c.self.inside.parts.adapter) (g.A.Adapter.view c.reset.new.self) _ c.self.invariant (subst (λ (x : DeviceView). label_places x + x.rules.depth ≤ 64) (sym (shown_is c.self.view_is)) c.requires.label_place) c.reset.ensures.resets c.reset.ensures.order).resets })
