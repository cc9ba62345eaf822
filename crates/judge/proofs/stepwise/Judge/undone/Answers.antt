use Rattle.std.proofs.Common.{◌≡◌, Option, None, sym, subst}
use Rattle.std.specs.Prelude.{◌↔◌, IfSome, Any}
use Rattle.judge.specs.declared.undone_rules.Undone.{Undone}
use Rattle.judge.specs.LeftUndone.{IsSettled, Leaves}
use Rattle.judge.proofs.Leaving.{exactly_all, left_at_all}
use Rattle.judge.proofs.stepwise.Judge.undone.Goals as goal

pub returns-clause-exact : goal.returns-clause-exact
returns-clause-exact c = λ some.
    subst (λ (x : Option Undone). (x ≡ None) ↔ Any (IsSettled c.args.self.now.rules) c.args.self.now.states) (sym c.left-left.ensures) (exactly_all c.args.self.now.rules c.args.self.now.states some)

pub returns-clause-left : goal.returns-clause-left
returns-clause-left c =
    subst (λ (x : Option Undone). IfSome x (λ u. Any (Leaves c.args.self.now.rules u) c.args.self.now.states)) (sym c.left-left.ensures) (left_at_all c.args.self.now.rules c.args.self.now.states)
