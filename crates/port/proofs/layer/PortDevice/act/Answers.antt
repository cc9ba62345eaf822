use Rattle.std.proofs.Common.{◌+◌, ◌≤◌, subst, sym}
use Rattle.port.specs.inside.TableView.{books_of}
use Rattle.port.specs.Shown.{reserved_of}
use Rattle.device.specs.View.{DeviceView, label_places}
use Rattle.port.proofs.Turning.{turned_either}
use Rattle.port.proofs.Seeing.{shown_is}
use Rattle.port.proofs.layer.PortDevice.act.Goals as goal

pub invariant_of-self : goal.invariant_of-self
invariant_of-self g c =
    (turned_either (books_of c.self.inside.parts.queues) (g.A.Adapter.view c.self.inside.parts.adapter) (g.A.Adapter.view c.act.new.self) _ c.args.tag c.act.result c.self.invariant (subst (λ (x : DeviceView). label_places x + 1 ≤ 64) (sym (shown_is c.self.view_is)) c.requires.label_place) c.act.ensures.acts c.act.ensures.order).0 (reserved_of (books_of c.self.inside.parts.queues).rooms) c.self.invariant

pub returns : goal.returns
returns g c =
    rw (← shown_is c.self.view_is) (record { acts = (turned_either (books_of c.self.inside.parts.queues) (g.A.Adapter.view c.self.inside.parts.adapter) (g.A.Adapter.view c.act.new.self) _ c.args.tag c.act.result c.self.invariant (subst (λ (x : DeviceView). label_places x + 1 ≤ 64) (sym (shown_is c.self.view_is)) c.requires.label_place) c.act.ensures.acts c.act.ensures.order).1 })
