use Rattle.std.proofs.Common.{rules, refl}
use Rattle.judge.specs.Following.{RefusesLine}
use Rattle.judge.specs.Views.{rules_of}
use Rattle.session_judge.proofs.Walking.{broken}
use Rattle.session_judge.proofs.walk.Walk.take_told.Goals as goal

pub returns-in-Err-Breaks : goal.returns-in-Err-Breaks
returns-in-Err-Breaks c =
    let refuses : RefusesLine c.args.self.now.judge c.args.line.now c.in-Err-Breaks.rule = search rules in
    broken (rules_of c.args.rules.now) c.args.line.now c.in-Err-Breaks.rule c.args.self.now _ refuses refl
