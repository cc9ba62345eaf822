use Rattle.std.proofs.Common.{arith, refl, lit<}
use Rattle.miniport.proofs.OneSector.{counted}
use Rattle.miniport.proofs.first_sector.FirstSectorMedium.reserve.Goals as goal

pub returns-clause-reserved : goal.returns-clause-reserved
returns-clause-reserved c = let disk = c.args.self.now in λ sector h. (
  record { first = 0; count = disk.sectors },
  (0, lit< tt, refl),
  (omega arith, omega (arith, c.requires, h.1, counted disk.sector_size disk.sectors disk.first.items disk.some)),
)
