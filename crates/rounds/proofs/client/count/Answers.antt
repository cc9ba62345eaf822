use Rattle.std.proofs.Common.{true, false, rules}
use Rattle.rounds.proofs.Counting.{counted_one}
use Rattle.rounds.proofs.client.count.Goals as goal

pub returns-then-are_all : goal.returns-then-are_all
returns-then-are_all c = counted_one c.args.byte c.args.bytes.now c.args.tally.now true (search rules)

pub returns : goal.returns
returns c = counted_one c.args.byte c.args.bytes.now c.args.tally.now false (search rules)
