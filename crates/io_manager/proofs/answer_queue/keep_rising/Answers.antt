use Rattle.io_manager.proofs.Common.{map, sym, ap, ◌∙◌, subst, AreRising, answer_number, inserted, answer_in_memory}
use Rattle.io_manager.proofs.InMemory.{inserted_shown, numbers_shown}
use Rattle.io_manager.proofs.answer_queue.keep_rising.Goals as goal

pub insert_rising-requires-clause-rising : goal.insert_rising-requires-clause-rising
insert_rising-requires-clause-rising c =
    let is = c.answered.invariant.kept (ap (λ q. q.keeps) c.answered.view_is ∙ c.requires.kept) in
    let numbers = ap (map answer_number) is ∙ (numbers_shown c.answered.inside.keeps_bytes c.answered.inside.told.items ∙ ap (λ q. map answer_number q.items) c.answered.view_is) in
    subst AreRising (sym numbers) c.requires.rising

pub invariant_of-answered : goal.invariant_of-answered
invariant_of-answered c =
    let kept = ap (λ q. q.keeps) c.answered.view_is ∙ c.requires.kept in
    let is = c.answered.invariant.kept kept in
    let shown = c.requires.shown ∙ ap (λ q. answer_in_memory q.keeps_bytes c.args.answer.now) (sym c.answered.view_is) in
    record {
      kept = λ _. c.insert_rising.ensures.items ∙ (ap (λ xs. inserted c.args.shown xs) is ∙ (ap (λ a. inserted a (map (answer_in_memory c.answered.inside.keeps_bytes) c.answered.inside.told.items)) shown
          ∙ (inserted_shown c.answered.inside.keeps_bytes c.args.answer.now c.answered.inside.told.items ∙ ap (map (answer_in_memory c.answered.inside.keeps_bytes)) (sym c.with-answered-inside.ensures))));
      quiet = λ no. absurd (cc (no, kept));
    }
