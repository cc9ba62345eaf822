use Rattle.std.proofs.Common.{◌-◌, arith}
use Rattle.nbd.specs.Contexts.{is_query_for}
use Rattle.nbd.proofs.Querying.{asked_more}
use Rattle.nbd.proofs.contexts.find_query.Goals as goal

pub loop-left-preserved : goal.loop-left-preserved
loop-left-preserved c =
    asked_more (is_query_for c.args.chooses) c.loop-left.found c.is_query_for-found.result c.loop-left.left (c.loop-left.left - 1) c.loop-left.rest.now c.in_ok-text.text.now c.in_ok-text.behind.now _
    (omega arith) c.in_ok-text.ensures c.is_query_for-found.ensures c.loop-left.invariant
