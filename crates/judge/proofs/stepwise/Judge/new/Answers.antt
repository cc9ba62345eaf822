use Rattle.std.proofs.Common.{[], ◌∷◌, ◌++◌, ◌∙◌, ap}
use Rattle.judge.specs.Views.{rules_of}
use Rattle.judge.proofs.Followed.{opens_as}
use Rattle.judge.proofs.Plain.{taken_labels}
use Rattle.judge.proofs.stepwise.Judge.new.Goals as goal

pub returns-clause-opens_lines : goal.returns-clause-opens_lines
returns-clause-opens_lines c =
    opens_as (rules_of c.args.rules) c.args.arrays.items c.push.new.self.items
    (c.in_ok-push.ensures.items ∙ ap (λ ms. ms ++ c.new.result ∷ []) c.new-machines.ensures.items ∙ ap (λ m. m ∷ []) c.new.ensures)

pub returns-clause-opens : goal.returns-clause-opens
returns-clause-opens c =
    taken_labels (record { rules = rules_of c.args.rules; states = c.push.new.self.items }) c.args.arrays.items []
    (opens_as (rules_of c.args.rules) c.args.arrays.items c.push.new.self.items
    (c.in_ok-push.ensures.items ∙ ap (λ ms. ms ++ c.new.result ∷ []) c.new-machines.ensures.items ∙ ap (λ m. m ∷ []) c.new.ensures))
