use Rattle.partition.proofs.Common.{sym, subst, All, WaitsIfCancelled, DeviceView}
use Rattle.partition.proofs.Taken.{taken_below}
use Rattle.partition.proofs.Hand.{resumes_shown}
use Rattle.partition.proofs.layer.PartitionsHold.resume.Goals as goal

pub resume-requires-clause-taken : goal.resume-requires-clause-taken
resume-requires-clause-taken g c =
    taken_below c.self.inside.parts.table.items (g.D.Shown.view c.self.inside.parts.device) (subst (λ (x : DeviceView). All WaitsIfCancelled x.state.requests) (sym c.self.view_is) c.requires.taken)

pub invariant_of-self : goal.invariant_of-self
invariant_of-self g c = (resumes_shown _ _ _ _ _ c.self.invariant c.shows_order.ensures.order c.resume.ensures.resumes).1

pub returns : goal.returns
returns g c = rw (← c.self.view_is) (record { resumes = (resumes_shown _ _ _ _ _ c.self.invariant c.shows_order.ensures.order c.resume.ensures.resumes).0 })
