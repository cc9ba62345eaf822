use Rattle.sector_judge.proofs.Changing.{told_more}
use Rattle.sector_judge.proofs.candidates.told.Goals as goal

pub loop-candidate-preserved : goal.loop-candidate-preserved
loop-candidate-preserved c =
    told_more c.loop-candidate.values.items c.add_told.new.values.items c.args.candidates.now c.loop-candidate.candidate-index _ c.loop-candidate-test.true c.loop-candidate.invariant c.in_ok-add_told.ensures
