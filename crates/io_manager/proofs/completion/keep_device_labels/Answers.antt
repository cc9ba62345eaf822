use Rattle.io_manager.proofs.Common.{◌++◌, map, sym, ap, ◌∙◌, in_memory, shown_label}
use Rattle.io_manager.proofs.InMemory.{recorded_shown}
use Rattle.io_manager.proofs.completion.keep_device_labels.Goals as goal

pub invariant_of-labels : goal.invariant_of-labels
invariant_of-labels g c =
    let kept = ap (λ q. q.keeps) c.labels.view_is ∙ c.requires.kept in
    let labels = c.labels.invariant.kept kept in
    let recorded = (g.D.Shown.view c.args.device.now).adapter.labels in
    let alike = ap (λ q. q.keeps_bytes) c.labels.view_is ∙ c.requires.alike in
    record {
      kept = λ _. c.move_labels.ensures.moved ∙ (ap (λ xs. xs ++ map (shown_label (g.D.Shown.view c.args.device.now).rules.keeps_bytes) recorded) labels
          ∙ (ap (λ k. map (in_memory c.labels.inside.keeps_bytes) c.labels.inside.told.items ++ map (shown_label k) recorded) (sym alike)
          ∙ (recorded_shown c.labels.inside.keeps_bytes c.labels.inside.told.items recorded ∙ ap (map (in_memory c.labels.inside.keeps_bytes)) (sym c.with-labels-inside.ensures))));
      quiet = λ no. absurd (cc (no, kept));
    }
