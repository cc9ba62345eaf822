use Rattle.std.proofs.Common.{◌≡◌, ◌+◌, length, take, [], subst, rules}
use Rattle.std.specs.Io.KnownBytes.{Consumes}
use Rattle.read_ahead.specs.Standing.{behind}
use Rattle.serving.proofs.Lending.{ends_lent, lends}
use Rattle.serving.proofs.doors.LentRead.read.Goals as goal

pub invariant_of-self-in-Some : goal.invariant_of-self-in-Some
invariant_of-self-in-Some g c = λ there.
    let far : c.self.inside.at + length (take c.in_ok-count.count c.read.new.buf) ≡ c.in-Some.at = search rules in
    subst (λ m. Consumes (behind m g.J.Naming.given) (g.I.Read.remaining c.read.new.self) []) far
    (lends g.J.Naming.given _ _ c.self.inside.at _ (c.self.invariant there) c.in_ok-count.ensures.bytes.0).stands

pub returns-in-Some-clause-bytes : goal.returns-in-Some-clause-bytes
returns-in-Some-clause-bytes g c =
    let far : c.self.inside.at + length (take c.in_ok-count.count c.read.new.buf) ≡ c.in-Some.at = search rules in
    let on = lends g.J.Naming.given _ _ c.self.inside.at _ (c.self.invariant c.if-self.false) c.in_ok-count.ensures.bytes.0 in
    rw (← c.self.view_is) (
      subst (λ m. Consumes (behind c.self.inside.at g.J.Naming.given) (behind m g.J.Naming.given) (take c.in_ok-count.count c.read.new.buf)) far on.gives,
      λ zero some. ends_lent g.J.Naming.given _ c.in-Some.at (subst (λ m. Consumes (behind m g.J.Naming.given) (g.I.Read.remaining c.read.new.self) []) far on.stands) (c.in_ok-count.ensures.bytes.1 zero some),
    )
