use Rattle.std.proofs.Common.{◌≡◌, Option, None, sym, subst}
use Rattle.std.specs.Prelude.{◌↔◌, IfSome}
use Rattle.machine.specs.Settled.{Settled}
use Rattle.judge.specs.declared.undone_rules.Undone.{Undone}
use Rattle.judge.specs.LeftUndone.{IsUndone}
use Rattle.judge.specs.Views.{rules_of}
use Rattle.judge.proofs.Leaving.{exactly, left}
use Rattle.judge.proofs.machine_state.Machine.undone.Goals as goal

pub returns-clause-exact : goal.returns-clause-exact
returns-clause-exact c =
    subst (λ (x : Option Undone). (x ≡ None) ↔ Settled (rules_of c.args.rules.now) c.args.self.now) (sym c.left-left.ensures) (exactly (rules_of c.args.rules.now) c.args.self.now)

pub returns-clause-left : goal.returns-clause-left
returns-clause-left c =
    subst (λ (x : Option Undone). IfSome x (λ u. IsUndone (rules_of c.args.rules.now) c.args.self.now u)) (sym c.left-left.ensures) (left (rules_of c.args.rules.now) c.args.self.now)
