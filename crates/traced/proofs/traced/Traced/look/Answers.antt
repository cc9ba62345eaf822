use Rattle.traced.proofs.Common.{subst, TracedView, AreLooked, shown}
use Rattle.traced.proofs.traced.Traced.look.Goals as goal

pub returns-clause-looked : goal.returns-clause-looked
returns-clause-looked g c =
    let mid : TracedView = shown c.look_all.new.stack c.look_all.new.log c.look_all.new.slots in
    subst (λ (b : TracedView). AreLooked g.N.TraceNaming.slots b mid) c.self.view_is c.look_all.ensures.looked
