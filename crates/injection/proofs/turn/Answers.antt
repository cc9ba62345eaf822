use Rattle.std.proofs.Common.{◌≤◌, ◌<◌, sym, subst, List, map, Option, IfSome}
use Rattle.injection.specs.declared.Kind.{Kind}
use Rattle.injection.specs.declared.Rule.{Rule}
use Rattle.injection.specs.Rules.{behind, left}
use Rattle.injection.proofs.Fewer.{none_more, some_fewer}
use Rattle.injection.proofs.turn.Goals as goal

pub returns-clause-no_more : goal.returns-clause-no_more
returns-clause-no_more c = subst (λ (rules : List Rule). left rules ≤ left c.args.rules.now) (sym c.count.ensures) (none_more c.args.asked c.args.rules.now)

pub returns-clause-fewer : goal.returns-clause-fewer
returns-clause-fewer c =
    subst (λ (rules : List Rule). IfSome c.due-due.result (λ _. left rules < left c.args.rules.now)) (sym c.count.ensures)
    (subst (λ (found : Option Kind). IfSome found (λ _. left (map (behind c.args.asked) c.args.rules.now) < left c.args.rules.now)) (sym c.due-due.ensures) (some_fewer c.args.asked c.args.rules.now))
