use Rattle.std.proofs.Common.{rules, ◌≡◌, [], ◌∷◌, sym, subst, ◌∙◌}
use Rattle.host.specs.Clients.{AreNumbered}
use Rattle.host_tests.proofs.Pairs.{two_are}
use Rattle.host_tests.proofs.desk.given_back.Goals as goal

pub returns : goal.returns
returns g c =
    let items : c.push_reserved-2.new.self.items ≡ c.args.first ∷ c.args.second ∷ [] = search rules in
    let first : c.client-one.result ≡ 0 = search rules in
    let second : c.client-two.result ≡ 1 = search rules in
    subst (AreNumbered 2) (sym items) (two_are c.args.first c.args.second (sym c.client-one.ensures ∙ first) (sym c.client-two.ensures ∙ second))
