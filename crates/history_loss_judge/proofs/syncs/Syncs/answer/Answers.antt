use Rattle.std.proofs.Common.{◌<◌, ◌∙◌, ap, sym, subst}
use Rattle.history_loss_kept.specs.declared.Shared.TheVariants.{End}
use Rattle.history_loss_kept.specs.Kept.{settled}
use Rattle.history_loss_sector.specs.declared.merging.SharedAt.{SharedAt}
use Rattle.history_loss_sector.specs.Seen.{shared_in}
use Rattle.history_loss_judge.specs.inside.Syncs.{IsCallAt, IsIndexed, TakesAnswer}
use Rattle.history_loss_judge.proofs.Syncing.{answered_at, at_low}
use Rattle.history_loss_judge.proofs.Visiting.{not_at}
use Rattle.history_loss_judge.proofs.syncs.Syncs.answer.Goals as goal

pub index-requires : goal.index-requires
index-requires c =
    let items = c.args.self.now.shared.items in
    let there : IsCallAt (shared_in items) c.args.number c.in-Some.at = subst (IsIndexed items c.args.number) (sym c.in-Some.ensures.value) c.requires in
    subst (λ n. c.in-Some.at < n) (sym c.args.self.now.shared.ok.0) (at_low items c.args.number c.in-Some.at there)

pub index_mut-requires : goal.index_mut-requires
index_mut-requires c =
    let items = c.args.self.now.shared.items in
    let there : IsCallAt (shared_in items) c.args.number c.in-Some.at = subst (IsIndexed items c.args.number) (sym c.in-Some.ensures.value) c.requires in
    subst (λ n. c.in-Some.at < n) (sym c.args.self.now.shared.ok.0) (at_low items c.args.number c.in-Some.at there)

pub returns : goal.returns
returns c =
    let items = c.args.self.now.shared.items in
    let n = c.args.number in
    let status = c.args.status in
    let there : IsCallAt (shared_in items) n c.in-Some.at = subst (IsIndexed items n) (sym c.in-Some.ensures.value) c.requires in
    let last : SharedAt = record { line = c.args.line; shared = End n c.is_success.result } in
    subst (λ found. TakesAnswer n status found c.args.self.now (record { shared = c.push.new.self; calls = c.remove.new.self })) c.in-Some.ensures.value
    (record {
      shared = answered_at items c.push.new.self.items n status c.in-Some.at c.index.result.now c.settled.result last there (c.settled.ensures ∙ ap (λ (s : SharedAt). settled n status s.shared) c.index.ensures) (ap (End n) c.is_success.ensures)
          c.in_ok-push.ensures.items;
      here = c.in-Some.ensures.updates.1;
      others = λ m differ. c.in-Some.ensures.updates.2 m (not_at n m differ);
    })
