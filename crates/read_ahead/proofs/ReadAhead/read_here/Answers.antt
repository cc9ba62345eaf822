use Rattle.std.proofs.Common.{◌≡◌, ◌≤◌, ◌+◌, length, take, drop, [], sym, rules}
use Rattle.read_ahead.proofs.Standings.{none_left, passes_on, ends_here}
use Rattle.read_ahead.proofs.ReadAhead.read_here.Goals as goal

pub invariant_of-self-2 : goal.invariant_of-self-2
invariant_of-self-2 g c =
    let spent : length c.self.inside.fetched.items ≤ c.self.inside.taken = search rules in
    let far : c.self.inside.at + length (take c.in_ok-count.count c.read.new.buf) ≡ c.in-Some.at = search rules in
    let none : drop c.self.inside.taken c.self.inside.fetched.items ≡ [] = none_left _ _ spent in
    (search rules, rw none (passes_on g.I.Read.remaining g.J.Naming.given _ _ _ _ _ _ _ c.in-Here.is none c.self.invariant.1 c.in_ok-count.ensures.bytes.0 far).0)

pub returns-clause-bytes : goal.returns-clause-bytes
returns-clause-bytes g c =
    let spent : length c.self.inside.fetched.items ≤ c.self.inside.taken = search rules in
    let far : c.self.inside.at + length (take c.in_ok-count.count c.read.new.buf) ≡ c.in-Some.at = search rules in
    let on = passes_on g.I.Read.remaining g.J.Naming.given _ _ _ _ _ _ _ c.in-Here.is (none_left _ _ spent) c.self.invariant.1 c.in_ok-count.ensures.bytes.0 far in
    rw (← c.self.view_is) (on.1, λ zero some. ends_here g.I.Read.remaining g.J.Naming.given _ _ on.0 (c.in_ok-count.ensures.bytes.1 zero some))
