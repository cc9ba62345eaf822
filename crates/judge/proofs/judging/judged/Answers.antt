use Rattle.std.proofs.Common.{rules, ◌≡◌, ◌<◌, ◌∙◌, ap, arith, length, ◌++◌, ◌∷◌, []}
use Rattle.judge.specs.Views.{rules_of}
use Rattle.judge.proofs.Judged.{first_reached, stops_here, goes_on}
use Rattle.judge.proofs.judging.judged.Goals as goal

pub loop-at-init : goal.loop-at-init
loop-at-init c =
    first_reached (rules_of c.args.rules.now) c.args.arrays.items c.args.labels.now c.push.new.self.items
    (c.in_ok-push.ensures.items ∙ ap (λ ms. ms ++ c.new.result ∷ []) c.new-machines.ensures.items ∙ ap (λ m. m ∷ []) c.new.ensures)

pub returns-then-is_empty : goal.returns-then-is_empty
returns-then-is_empty c =
    let low : c.loop-at.at < length c.args.labels.now = omega arith in
    let none : length c.in_ok-machines.machines.items ≡ 0 = search rules in
    stops_here (rules_of c.args.rules.now) c.args.arrays.items c.args.labels.now c.loop-at.at c.loop-at.machines.items c.in_ok-machines.machines.items c.index-labels-at.result
    c.loop-at.invariant low c.index-labels-at.is c.in_ok-machines.ensures none

pub loop-at-preserved : goal.loop-at-preserved
loop-at-preserved c =
    let low : c.loop-at.at < length c.args.labels.now = omega arith in
    let some : 0 < length c.in_ok-machines.machines.items = search rules in
    goes_on (rules_of c.args.rules.now) c.args.arrays.items c.args.labels.now c.loop-at.at c.loop-at.machines.items c.in_ok-machines.machines.items c.index-labels-at.result
    c.loop-at.invariant low c.index-labels-at.is c.in_ok-machines.ensures some
