use Rattle.label_text.proofs.Skipped.{block_skipped, equal_more, other_behind}
use Rattle.label_text.proofs.runs.run_of.Goals as goal

pub loop-rest-preserved : goal.loop-rest-preserved
loop-rest-preserved c =
    block_skipped c.args.byte 128 c.args.bytes.now c.loop-rest.rest.now c.split_at.result.0.now c.split_at.result.1.now c.loop-rest.invariant c.split_at.ensures.front c.split_at.ensures.back
    (c.is_all.ensures c.if-not-is_all.false)

pub returns-clause-equal : goal.returns-clause-equal
returns-clause-equal c = equal_more c.args.byte c.equal_bytes.result c.args.bytes.now c.loop-rest.rest.now c.loop-rest.invariant c.equal_bytes.ensures.equal

pub returns-clause-longest : goal.returns-clause-longest
returns-clause-longest c = other_behind c.args.byte c.equal_bytes.result c.args.bytes.now c.loop-rest.rest.now c.loop-rest.invariant c.equal_bytes.ensures.longest
