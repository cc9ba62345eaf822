use Rattle.std.proofs.Common.{sym}
use Rattle.disk.proofs.Cutting.{length-first_chunks}
use Rattle.disk.proofs.vec_disk.VecDiskMedium.sectors.Goals as goal

pub returns : goal.returns
returns c = let disk = c.args.self.now in sym (length-first_chunks disk.sector_size disk.sectors disk.bytes.items)
