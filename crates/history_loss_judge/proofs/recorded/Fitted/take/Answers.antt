use Rattle.std.proofs.Common.{◌≡◌, ◌∙◌, ap, refl, sym, length}
use Rattle.history_loss_sector.specs.Seen.{shared_in}
use Rattle.history_loss_judge.specs.inside.Telling.{shared_called}
use Rattle.history_loss_judge.proofs.Syncing.{begun_is, length_in}
use Rattle.history_loss_judge.proofs.Whole.{told_label, whole_told}
use Rattle.history_loss_judge.proofs.recorded.Fitted.take.Goals as goal

pub take-requires-clause-has : goal.take-requires-clause-has
take-requires-clause-has c =
    let f = c.args.self.now in
    let label = c.args.label.now in
    let mid = c.begin.new.self in
    let count : length (shared_called label (shared_in f.syncs.shared.items)) ≡ c.len-behind.result =
    ap length (sym (begun_is label f.syncs mid c.in_ok-begin.ensures)) ∙ length_in mid.shared.items ∙ sym mid.shared.ok.0 ∙ sym c.len-behind.ensures in (
      shared_in f.syncs.shared.items,
      c.requires.whole.kept,
      c.requires.whole.cells,
      told_label f c.requires.whole label c.requires.fits c.span-span.result c.len-behind.result c.answers-is_sync.result c.span-span.ensures c.answers-is_sync.ensures count,
    )

pub returns-clause-whole : goal.returns-clause-whole
returns-clause-whole c =
    let f = c.args.self.now in
    let label = c.args.label.now in
    let mid = c.begin.new.self in
    let count : length (shared_called label (shared_in f.syncs.shared.items)) ≡ c.len-behind.result =
    ap length (sym (begun_is label f.syncs mid c.in_ok-begin.ensures)) ∙ length_in mid.shared.items ∙ sym mid.shared.ok.0 ∙ sym c.len-behind.ensures in
    whole_told f _ label mid c.span-span.result c.requires.whole c.requires.fits c.span-span.ensures refl refl c.with-self.ensures c.in_ok-take-2.ensures c.in_ok-begin.ensures c.in_ok-finish.ensures
    (c.in_ok-take.ensures (shared_in f.syncs.shared.items) c.requires.whole.kept c.requires.whole.cells
    (told_label f c.requires.whole label c.requires.fits c.span-span.result c.len-behind.result c.answers-is_sync.result c.span-span.ensures c.answers-is_sync.ensures count))
