use Rattle.host.proofs.Common.{◌≡◌, List, ◌++◌, ap, ◌∙◌, KeeperView, Receipt}
use Rattle.machine.specs.declared.Label.TheVariants.{Removed as RemovedLabel}
use Rattle.host.proofs.Noticing.{noted_one}
use Rattle.host.proofs.host.Host.end_removal.Goals as goal

pub returns-clause-told : goal.returns-clause-told
returns-clause-told g c =
    let was : c.keeper.inside.known.told ≡ c.args.keeper.now.told = ap (λ (k : KeeperView). k.told) c.keeper.view_is ∙ c.drain.ensures.told in
    let adds : c.join.new.self ≡ c.args.keeper.now.told ++ c.await_removed-claim.result = c.join.ensures ∙ ap (λ (cs : List Receipt). cs ++ c.await_removed-claim.result) was in
    noted_one RemovedLabel c.args.from c.args.keeper.now.told c.await_removed-claim.result c.join.new.self c.requires.above c.await_removed-claim.ensures adds

pub returns-clause-standing : goal.returns-clause-standing
returns-clause-standing g c = ap (λ (k : KeeperView). k.standing) c.keeper.view_is ∙ c.drain.ensures.standing
