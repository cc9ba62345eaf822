use Rattle.std.proofs.Common.{refl}
use Rattle.sector.proofs.WholeSectors.{whole_sectors, within_bytes, covered_bytes}
use Rattle.sector.proofs.bytes_to_sectors.Goals as goal
use Rattle.sector.proofs.bytes_to_sectors.Goals.{then-offset-size-ne0-via-then-offset-size-ne0, then-offset-size-ne0-via-else-offset-size-ne0+then-length-size-ne0, then-offset-size-ne0-via-else-offset-size-ne0+else-length-size-ne0+then-not-is_within}

pub returns-then-offset-size-ne0-clause-accepted :
    goal.returns-then-offset-size-ne0-clause-accepted
returns-then-offset-size-ne0-clause-accepted c = (
  λ h. cc,
  λ whole. absurd (
      elim c.then-offset-size-ne0.branch [
        | then-offset-size-ne0-via-then-offset-size-ne0 w ↦ w.if-offset-size-ne0.true whole.begins
        | then-offset-size-ne0-via-else-offset-size-ne0+then-length-size-ne0 w ↦ w.if-length-size-ne0.true whole.ends
        | then-offset-size-ne0-via-else-offset-size-ne0+else-length-size-ne0+then-not-is_within w ↦
            let it = c.args in
            let inside = (within_bytes _ _ it.sectors it.sector_size it.offset it.length c.requires
            (whole_sectors it.offset it.sector_size whole.begins) (whole_sectors it.length it.sector_size whole.ends)).1 whole.within in
            let found = w.is_within.ensures.1 inside in cc
      ]),
)

pub returns-clause-accepted : goal.returns-clause-accepted
returns-clause-accepted c = (
  λ h. let it = c.args in record {
    begins = c.if-offset-size-ne0.false;
    ends = c.if-length-size-ne0.false;
    within = (within_bytes _ _ it.sectors it.sector_size it.offset it.length c.requires
        (whole_sectors it.offset it.sector_size c.if-offset-size-ne0.false) (whole_sectors it.length it.sector_size c.if-length-size-ne0.false)).0
        (c.is_within.ensures.0 c.if-not-is_within.false);
  },
  λ h. refl,
)

pub returns-clause-covers : goal.returns-clause-covers
returns-clause-covers c = let it = c.args in covered_bytes _ it.sector_size it.offset it.length c.requires
    (whole_sectors it.offset it.sector_size c.if-offset-size-ne0.false) (whole_sectors it.length it.sector_size c.if-length-size-ne0.false)
