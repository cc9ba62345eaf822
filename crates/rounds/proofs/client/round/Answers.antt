use Rattle.rounds.proofs.Counting.{counts_both, on_ok}
use Rattle.rounds.proofs.client.round.Goals as goal

pub returns-clause-counts : goal.returns-clause-counts
returns-clause-counts g c =
    on_ok c.call_and_count-2.result
    (counts_both c.args.byte c.args.client.now c.call_and_count.new.client c.call_and_count-2.new.client c.args.tally.now c.call_and_count.new.tally c.call_and_count-2.new.tally c.in_ok-call_and_count.ensures.counts)
    c.call_and_count-2.ensures.counts
