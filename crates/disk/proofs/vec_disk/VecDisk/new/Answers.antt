use Rattle.disk.proofs.Shown.{blank_if_started}
use Rattle.disk.proofs.vec_disk.VecDisk.new.Goals as goal

pub returns-clause-blank : goal.returns-clause-blank
returns-clause-blank c = blank_if_started c.args.sector_size c.args.sectors c.starting_with.result c.starting_with.ensures.starts
