use Rattle.mbr.proofs.Sharing.{shares}
use Rattle.mbr.proofs.reading.overlap.Goals as goal

pub returns : goal.returns
returns c = shares c.args.one c.args.other c.overlaps.result c.overlaps.ensures
