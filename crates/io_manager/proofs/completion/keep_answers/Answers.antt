use Rattle.io_manager.proofs.Common.{◌++◌, map, sym, ap, ◌∙◌, in_memory, as_answer, answer_in_memory}
use Rattle.io_manager.proofs.InMemory.{answers_shown}
use Rattle.io_manager.proofs.completion.keep_answers.Goals as goal

pub invariant_of-labels : goal.invariant_of-labels
invariant_of-labels c =
    let kept = ap (λ q. q.keeps) c.labels.view_is ∙ c.requires.labels_kept in
    let labels = c.labels.invariant.kept kept in
    let answers = c.answered.invariant.kept (ap (λ q. q.keeps) c.answered.view_is ∙ c.requires.kept) in
    let alike = ap (λ q. q.keeps_bytes) c.answered.view_is ∙ (c.requires.alike ∙ sym (ap (λ q. q.keeps_bytes) c.labels.view_is)) in
    record {
      kept = λ _. c.move_answers.ensures.moved ∙ (ap (λ xs. xs ++ map as_answer c.answered.inside.queue.items) labels
          ∙ (ap (λ ys. map (in_memory c.labels.inside.keeps_bytes) c.labels.inside.told.items ++ map as_answer ys) (answers ∙ ap (λ k. map (answer_in_memory k) c.answered.inside.told.items) alike)
          ∙ (answers_shown c.labels.inside.keeps_bytes c.labels.inside.told.items c.answered.inside.told.items ∙ ap (map (in_memory c.labels.inside.keeps_bytes)) (sym c.with-labels-inside.ensures))));
      quiet = λ no. absurd (cc (no, kept));
    }
