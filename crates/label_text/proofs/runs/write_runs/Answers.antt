use Rattle.std.proofs.Common.{rules}
use Rattle.label_text.proofs.LongestRuns.{run_written, some_equal}
use Rattle.label_text.proofs.runs.write_runs.Goals as goal

pub loop-rest-preserved : goal.loop-rest-preserved
loop-rest-preserved c =
    run_written _ c.args.bytes.now c.loop-rest.rest.now c.split_at.result.1.now _ _ _ c.run_of-count.result _ c.loop-rest.invariant c.run_of-count.ensures.within
    (some_equal c.run_of-count.result _ c.loop-rest.rest.now (search rules) (search rules) c.run_of-count.ensures.longest) c.run_of-count.ensures.equal c.run_of-count.ensures.longest c.split_at.ensures.back c.is_empty-in-loop-rest.ensures c.in_ok-write_run.ensures
