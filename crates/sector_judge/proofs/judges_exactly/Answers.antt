use Rattle.sector_judge.proofs.Judging.{judges_exactly}
use Rattle.sector_judge.proofs.judges_exactly.Goals as goal

pub returns : goal.returns
returns c = judges_exactly
