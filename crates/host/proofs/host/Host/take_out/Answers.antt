use Rattle.pnp.specs.declared.State.{State as PnpState}
use Rattle.host.specs.Keepers.{request_by}
use Rattle.host.specs.Standing.{GoesBy}
use Rattle.host.proofs.Common.{◌≡◌, List, ap, sym, subst, Label, HasNoted, KeeperView, label_of, notice_of, Receipt}
use Rattle.host.proofs.Noticing.{removed_after}
use Rattle.host.proofs.host.Host.take_out.Goals as goal

pub returns-in-Ok-clause-told : goal.returns-in-Ok-clause-told
returns-in-Ok-clause-told g c =
    let label : Label = label_of (notice_of c.args.minor) in
    let was : c.keeper.inside.known.told ≡ c.args.keeper.now.told = ap (λ (k : KeeperView). k.told) c.keeper.view_is in
    record {
      accepted = λ ok. removed_after label c.args.keeper.now.told c.ask-reply.new.known.told c.end_removal.new.keeper.told
          (subst (λ (rs : List Receipt). HasNoted label rs c.ask-reply.new.known.told) was (c.ask-reply.ensures.told.accepted c.in-Ok.is)) c.end_removal.ensures.told;
      otherwise = λ not. absurd (not c.in-Ok.is);
    }

pub returns-in-Ok-clause-goes : goal.returns-in-Ok-clause-goes
returns-in-Ok-clause-goes g c =
    subst (λ (k : KeeperView). GoesBy (request_by c.args.minor) k.standing c.ask-reply.result.0 c.end_removal.new.keeper.standing) c.keeper.view_is
    (subst (λ (s : PnpState). GoesBy (request_by c.args.minor) c.keeper.inside.known.standing c.ask-reply.result.0 s) (sym c.end_removal.ensures.standing) c.ask-reply.ensures.goes)
