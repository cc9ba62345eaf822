use Rattle.std.proofs.Common.{◌≡◌, ◌∙◌, ap, arith, rules, subst}
use Rattle.rounds.specs.Tallies.{byte_of}
use Rattle.rounds.specs.inside.Counting.{CountsAll}
use Rattle.rounds.proofs.Counting.{counts_round}
use Rattle.rounds.proofs.client.serve_client.Goals as goal

pub loop-j-preserved : goal.loop-j-preserved
loop-j-preserved g c =
    let was = c.loop-j.invariant in let more = c.in-Ok.ensures in
    let first : c.client-first.result ≡ c.loop-j.client.client = search rules in
    let byte : c.byte_in-byte.result ≡ byte_of c.loop-j.client.client c.loop-j.j = c.byte_in-byte.ensures ∙ ap (λ n. byte_of n c.loop-j.j) first in
    let counts = subst (λ b. CountsAll b c.loop-j.client c.loop-j.tally c.round.new.client c.round.new.tally) byte more.counts in (
      more.client ∙ was.0,
      more.most.0,
      (let h = was.2 in let i = more.most.1 in omega arith),
      counts_round c.loop-j.j c.loop-j.client c.round.new.client c.loop-j.tally c.round.new.tally more.client was.3 counts,
    )
