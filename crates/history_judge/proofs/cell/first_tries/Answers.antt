use Rattle.std.proofs.Common.{◌∙◌, ◌∷◌, ◌++◌, [], ap}
use Rattle.history_judge.proofs.Celling.{first_any, first_one}
use Rattle.history_judge.proofs.cell.first_tries.Goals as goal

pub returns-then-any : goal.returns-then-any
returns-then-any c = first_any c.args.start.now.any c.args.start.now.bytes _ c.if-any.true c.new-tries.ensures.items

pub returns : goal.returns
returns c =
    first_one c.args.start.now.any c.args.start.now.bytes _ c.in_ok-first.first c.if-any.false (c.in_ok-push.ensures.items ∙ ap (λ xs. xs ++ c.in_ok-first.first ∷ []) c.new-tries.ensures.items) c.in_ok-first.ensures.start
    c.in_ok-first.ensures.seen
