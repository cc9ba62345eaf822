use Rattle.std.proofs.Common.{◌∙◌, ◌∷◌, [], ap, sym, Some}
use Rattle.history_loss_kept.specs.declared.Outcome.TheVariants.{Open}
use Rattle.history_loss_kept.specs.declared.Shared.TheVariants.{Call as SharedCall}
use Rattle.history_loss_sector.specs.declared.merging.SharedAt.{SharedAt}
use Rattle.history_loss_sector.specs.Seen.{shared_in}
use Rattle.history_loss_judge.proofs.Syncing.{length_in, shared_append}
use Rattle.history_loss_judge.proofs.Visiting.{not_at}
use Rattle.history_loss_judge.proofs.syncs.Syncs.note.Goals as goal

pub returns : goal.returns
returns c =
    let items = c.args.self.now.shared.items in
    let one : SharedAt = record { line = c.args.line; shared = SharedCall c.args.number c.args.is_flush Open } in record {
      shared = ap shared_in c.in_ok-push.ensures.items ∙ shared_append items (one ∷ []);
      here = c.in_ok-insert.ensures.updates.1 ∙ ap Some (c.len-at.ensures ∙ c.args.self.now.shared.ok.0 ∙ sym (length_in items));
      others = λ m differ. c.in_ok-insert.ensures.updates.2 m (not_at c.args.number m differ);
    }
