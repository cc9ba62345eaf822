use Rattle.std.proofs.Common.{◌≡◌, ◌∙◌, subst, sym, get_or}
use Rattle.machine.specs.State.{State}
use Rattle.judge.specs.Views.{rules_of}
use Rattle.judge.proofs.Branching.{none_at, one_starts}
use Rattle.judge.proofs.machine_state.Machine.start_at.Goals as goal

pub returns-in_err-places-clause-starts : goal.returns-in_err-places-clause-starts
returns-in_err-places-clause-starts c =
    let o = c.index.result.now in
    let there : o ≡ get_or c.args.self.now.requests c.args.at o =
    subst (λ (s : State). o ≡ get_or s.requests c.args.at o) c.self.view_is c.index.ensures in
    none_at c.args.self.now c.args.start.tag (rules_of c.args.rules.now) c.args.start.owner c.args.start.command c.args.at o
    c.from_residual.result c.requires there (sym c.in_err-places.was ∙ c.startable.ensures) c.from_residual.ensures

pub returns-clause-starts : goal.returns-clause-starts
returns-clause-starts c =
    let o = c.index.result.now in
    let there : o ≡ get_or c.args.self.now.requests c.args.at o =
    subst (λ (s : State). o ≡ get_or s.requests c.args.at o) c.self.view_is c.index.ensures in
    sym (one_starts c.args.self.now c.args.start.tag (rules_of c.args.rules.now) c.args.start.owner c.args.start.command c.args.at o
    c.in_ok-places.places c.requires there (sym c.in_ok-places.was ∙ c.startable.ensures))
