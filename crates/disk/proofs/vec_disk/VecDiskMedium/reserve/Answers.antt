use Rattle.std.proofs.Common.{arith, refl, lit<}
use Rattle.disk.proofs.Cutting.{length-first_chunks}
use Rattle.disk.proofs.vec_disk.VecDiskMedium.reserve.Goals as goal

pub returns-clause-reserved : goal.returns-clause-reserved
returns-clause-reserved c = let disk = c.args.self.now in λ sector h. (
  record { first = 0; count = disk.sectors },
  (0, lit< tt, refl),
  (omega arith, omega (arith, c.requires, h.1, length-first_chunks disk.sector_size disk.sectors disk.bytes.items)),
)
