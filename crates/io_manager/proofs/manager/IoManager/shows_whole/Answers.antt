use Rattle.io_manager.proofs.Common.{subst, Settled, IsFinished, IsInOrder, DeviceView, IsOrderly, ManagerView, FitsTogether}
use Rattle.io_manager.proofs.Stepping.{FitsTogether-view, Settled-view, IsFinished-view}
use Rattle.io_manager.proofs.manager.IoManager.shows_whole.Goals as goal

pub returns-clause-settled : goal.returns-clause-settled
returns-clause-settled g c =
    subst (λ (v : ManagerView). Settled v.rules v.state) c.self.view_is
    (Settled-view c.self.inside.parts.limits (g.D.Shown.view c.self.inside.parts.device) c.self.inside.parts.tables c.self.invariant.kept.sound c.self.invariant.kept.settled)

pub returns-clause-finished : goal.returns-clause-finished
returns-clause-finished g c =
    subst (λ (v : ManagerView). IsFinished v.state) c.self.view_is
    (IsFinished-view c.self.inside.parts.limits (g.D.Shown.view c.self.inside.parts.device) c.self.inside.parts.tables c.self.invariant.kept.sound c.self.invariant.kept.going)

pub returns-clause-whole : goal.returns-clause-whole
returns-clause-whole g c =
    let below : DeviceView = g.D.Shown.view c.self.inside.parts.device in
    let orderly : IsOrderly below = c.shows_order.ensures.order in
    subst FitsTogether c.self.view_is (FitsTogether-view c.self.inside.parts.limits below c.self.inside.parts.tables c.self.invariant.kept.sound orderly.adapter orderly.read)

pub returns-clause-in_order : goal.returns-clause-in_order
returns-clause-in_order g c =
    let below : DeviceView = g.D.Shown.view c.self.inside.parts.device in
    let orderly : IsOrderly below = c.shows_order.ensures.order in
    subst (λ (v : ManagerView). IsInOrder v.adapter) c.self.view_is orderly.adapter
