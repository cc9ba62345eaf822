use Rattle.std.proofs.Common.{◌≡◌, ◌≤◌, ◌+◌, ◌++◌, length, take, drop, drop-drop, false, ap, ◌∙◌, subst, rules}
use Rattle.read_ahead.specs.inside.Places.{Stands, is_lost}
use Rattle.read_ahead.proofs.Standings.{passes_fetched, whole_rest}
use Rattle.read_ahead.proofs.ReadAhead.read_fetched.Goals as goal

pub invariant_of-self : goal.invariant_of-self
invariant_of-self g c =
    let there : is_lost c.self.inside.place ≡ false = search rules in
    let long : length (take c.in_ok-count.count c.read.new.buf) ≡ c.in_ok-count.count = search rules in
    let far : c.self.inside.at + length (take c.in_ok-count.count c.read.new.buf) ≡ c.in-Some.at = search rules in
    let is : drop c.self.inside.taken c.self.inside.fetched.items ≡ take c.in_ok-count.count c.read.new.buf ++ c.read.new.self.now = whole_rest c.as_slice.result.now c.self.inside.fetched.items c.self.inside.taken c.as_slice.ensures.value ∙ c.in_ok-count.ensures.bytes.0 in
    let p = passes_fetched g.I.Read.remaining g.J.Naming.given _ _ _ _ _ _ there c.self.invariant.1 is far in
    let rest = drop-drop (length (take c.in_ok-count.count c.read.new.buf)) c.self.inside.taken c.self.inside.fetched.items ∙ ap (λ k. drop (c.self.inside.taken + k) c.self.inside.fetched.items) long in
    (search rules, subst (λ f. Stands g.I.Read.remaining g.J.Naming.given c.self.inside.place c.in-Some.at f) rest p.0)

pub returns-clause-bytes : goal.returns-clause-bytes
returns-clause-bytes g c =
    let there : is_lost c.self.inside.place ≡ false = search rules in
    let far : c.self.inside.at + length (take c.in_ok-count.count c.read.new.buf) ≡ c.in-Some.at = search rules in
    let is : drop c.self.inside.taken c.self.inside.fetched.items ≡ take c.in_ok-count.count c.read.new.buf ++ c.read.new.self.now = whole_rest c.as_slice.result.now c.self.inside.fetched.items c.self.inside.taken c.as_slice.ensures.value ∙ c.in_ok-count.ensures.bytes.0 in
    let p = passes_fetched g.I.Read.remaining g.J.Naming.given _ _ _ _ _ _ there c.self.invariant.1 is far in
    rw (← c.self.view_is) (p.1, λ zero some. let never : ⊥ = search rules in absurd never)
