use Rattle.std.proofs.Common.{◌≡◌, ◌++◌, sym, subst}
use Rattle.std.specs.Prelude.{OnOk}
use Rattle.history_loss_kept.specs.Kept.{shared_sights}
use Rattle.history_loss_sector.proofs.merging.see_one.Goals as goal

pub returns-in-End-clause-seen : goal.returns-in-End-clause-seen
returns-in-End-clause-seen c =
    subst (λ s. OnOk c.see.result (c.see.new.self.seen.sights ≡ c.args.watched.now.seen.sights ++ shared_sights c.args.all s)) (sym c.in-End.is)
    (subst (λ xs. OnOk c.see.result (c.see.new.self.seen.sights ≡ c.args.watched.now.seen.sights ++ xs)) (c.end_of.ensures c.args.all) c.see.ensures.seen)
