use Rattle.std.proofs.Common.{◌≡◌, ◌≤◌, ◌+◌, [], length, drop, false, ap, ◌∙◌, subst, rules}
use Rattle.read_ahead.specs.Standing.{behind}
use Rattle.read_ahead.specs.inside.Places.{Stands, is_lost}
use Rattle.read_ahead.proofs.Standings.{passes_whole}
use Rattle.read_ahead.proofs.ReadAheadAhead.take_whole.Goals as goal

pub invariant_of-self : goal.invariant_of-self
invariant_of-self g c =
    let there : is_lost c.self-2.inside.place ≡ false = search rules in
    let none : c.self-2.inside.taken ≡ 0 = search rules in
    let far : c.self-2.inside.at + length c.self-2.inside.fetched.items ≡ c.in-Some.at = search rules in
    let stands = subst (λ k. Stands g.I.Read.remaining g.J.Naming.given c.self-2.inside.place c.self-2.inside.at (drop k c.self-2.inside.fetched.items)) none c.self-2.invariant.1 in
    let p = passes_whole g.I.Read.remaining g.J.Naming.given _ _ _ _ there stands far in
    let empty : c.replace.new.dest.items ≡ [] = ap (λ v. v.items) c.replace.ensures.after ∙ c.new.ensures.items in
    (search rules, rw (none, empty) p.0)

pub returns-clause-taken : goal.returns-clause-taken
returns-clause-taken g c =
    let there : is_lost c.self-2.inside.place ≡ false = search rules in
    let none : c.self-2.inside.taken ≡ 0 = search rules in
    let far : c.self-2.inside.at + length c.self-2.inside.fetched.items ≡ c.in-Some.at = search rules in
    let stands = subst (λ k. Stands g.I.Read.remaining g.J.Naming.given c.self-2.inside.place c.self-2.inside.at (drop k c.self-2.inside.fetched.items)) none c.self-2.invariant.1 in
    let p = passes_whole g.I.Read.remaining g.J.Naming.given _ _ _ _ there stands far in
    let same : behind c.self-2.inside.at g.J.Naming.given ≡ c.args.self.now = search rules in
    rw (← same, c.replace.ensures.value) p.1
