use Rattle.std.proofs.Common.{◌≡◌, ◌≤◌, ◌+◌, length, refl, sym, rules}
use Rattle.read_ahead.proofs.Standings.{none_left, passes_on}
use Rattle.read_ahead.proofs.ReadAhead.hand_over.Goals as goal

pub invariant_of-asked : goal.invariant_of-asked
invariant_of-asked g c =
    let spent : length c.self.inside.fetched.items ≤ c.self.inside.taken = search rules in
    let far : c.self.inside.at + length c.in-Some.header.items ≡ c.in-Some-Some.at = search rules in
    (passes_on g.I.Read.remaining g.J.Naming.given _ _ _ _ _ _ _ (sym c.in-Here.ensures.value) (none_left _ _ spent) c.self.invariant.1 c.in-Some.ensures.taken far).0

pub invariant_of-self-2 : goal.invariant_of-self-2
invariant_of-self-2 g c =
    let spent : length c.self.inside.fetched.items ≤ c.self.inside.taken = search rules in
    (search rules, (passes_on g.I.Read.remaining g.J.Naming.given _ _ _ _ _ _ _ (sym c.in-Here.ensures.value) (none_left _ _ spent) c.self.invariant.1 c.in-Some.ensures.taken refl).1)
