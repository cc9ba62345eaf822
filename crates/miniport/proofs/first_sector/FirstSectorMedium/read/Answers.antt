use Rattle.std.proofs.Common.{refl}
use Rattle.miniport.proofs.OneSector.{bad_elsewhere, elsewhere_bad}
use Rattle.miniport.proofs.first_sector.FirstSectorMedium.read.Goals as goal

pub returns-then-is_elsewhere-clause-refused : goal.returns-then-is_elsewhere-clause-refused
returns-then-is_elsewhere-clause-refused c = let disk = c.args.self.now in (
  λ _. elsewhere_bad disk.sector_size disk.sectors disk.failures disk.first.items c.args.extent disk.some c.requires.within (c.if-is_elsewhere.ensures.0 refl),
  λ _. refl,
)

pub returns-then-extent-eq1-clause-refused : goal.returns-then-extent-eq1-clause-refused
returns-then-extent-eq1-clause-refused c = let disk = c.args.self.now in (
  λ e. absurd (cc (e)),
  λ bad. c.if-is_elsewhere.ensures.1 (bad_elsewhere disk.sector_size disk.sectors disk.failures disk.first.items c.args.extent bad),
)
