use Rattle.std.proofs.Common.{ap, ◌∙◌, slice_range}
use Rattle.disk.specs.VecDisk.{shown}
use Rattle.disk.proofs.Cutting.{bytes_of_sectors}
use Rattle.disk.proofs.Shown.{within_sectors}
use Rattle.disk.proofs.vec_disk.VecDiskMedium.read.Goals as goal

pub places-start-requires : goal.places-start-requires
places-start-requires c = within_sectors c.args.self.now c.args.extent c.requires.within

pub returns-clause-reads : goal.returns-clause-reads
returns-clause-reads c =
    let disk = c.args.self.now in
    let place = c.places-start in
    record {
      bytes_are = c.copy_from_slice.ensures.after
          ∙ (ap (λ l. slice_range l place.result.0 place.result.1) c.deref.ensures.value
          ∙ bytes_of_sectors disk.sector_size disk.sectors c.args.extent.first c.args.extent.count place.result.0 place.result.1
          disk.bytes.items disk.filled (within_sectors disk c.args.extent c.requires.within) place.ensures.start place.ensures.end);
      after = ap (λ bad. record (shown disk) { bad = bad.sectors.items; failures = bad.failures }) c.in_ok-check.ensures.passes;
    }
