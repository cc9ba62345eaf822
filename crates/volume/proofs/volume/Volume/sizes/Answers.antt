use Rattle.volume.proofs.Common.{◌≡◌, ◌*◌, subst, length, VolumeView}
use Rattle.volume.proofs.Methods.{counted, few_sectors, usual_sectors}
use Rattle.volume.proofs.volume.Volume.sizes.Goals as goal

pub returns-clause-sectors : goal.returns-clause-sectors
returns-clause-sectors g c =
    subst (λ (w : VolumeView). c.self.inside.sizes.sectors * c.self.inside.sizes.sector_size ≡ length w.content.bytes) c.self.view_is
    (counted c.self.inside.stack c.self.inside.handle c.self.inside.partition c.self.inside.sizes c.self.invariant)

pub returns-clause-usual : goal.returns-clause-usual
returns-clause-usual g c = usual_sectors c.self.inside.stack c.self.inside.handle c.self.inside.partition c.self.inside.sizes c.self.invariant

pub returns-clause-few : goal.returns-clause-few
returns-clause-few g c = few_sectors c.self.inside.stack c.self.inside.handle c.self.inside.partition c.self.inside.sizes c.self.invariant
