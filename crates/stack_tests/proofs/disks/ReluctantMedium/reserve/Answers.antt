use Rattle.std.proofs.Common.{◌≡◌, arith, rules}
use Rattle.stack_tests.proofs.Refusing.{inner_reserves, reserved_below, shown_reserved}
use Rattle.stack_tests.proofs.disks.ReluctantMedium.reserve.Goals as goal

pub returns-clause-reserved : goal.returns-clause-reserved
returns-clause-reserved g c =
    let none : c.args.self.now.refusals ≡ 0 = search (rules, arith) in
    shown_reserved c.reserve.result c.args.self.now.refusals (g.M.Medium.view c.reserve.new.self) c.args.extent none c.reserve.ensures.reserved

pub returns-clause-ready : goal.returns-clause-ready
returns-clause-ready g c = λ reserved. c.reserve.ensures.ready (reserved_below c.args.self.now.refusals (g.M.Medium.view c.args.self.now.medium) c.args.extent reserved)

pub returns-clause-reserves : goal.returns-clause-reserves
returns-clause-reserves g c =
    let none : c.args.self.now.refusals ≡ 0 = search (rules, arith) in
    inner_reserves c.args.self.now.refusals (g.M.Medium.view c.args.self.now.medium) (g.M.Medium.view c.reserve.new.self) none c.reserve.ensures.reserves
