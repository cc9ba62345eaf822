use Rattle.std.proofs.Common.{ap, ◌∙◌}
use Rattle.std.specs.Simd.{first_chunks}
use Rattle.sector.specs.Splice.{splice}
use Rattle.disk.specs.inside.Chunks.{All-first_chunks}
use Rattle.disk.specs.VecDisk.{shown}
use Rattle.disk.proofs.Cutting.{length-first_chunks, concat-first_chunks, sectors_written}
use Rattle.disk.proofs.Shown.{within_sectors}
use Rattle.disk.proofs.vec_disk.VecDiskMedium.write.Goals as goal

pub places-start-requires : goal.places-start-requires
places-start-requires c = within_sectors c.args.self.now c.args.extent c.requires.within

pub returns-clause-writes : goal.returns-clause-writes
returns-clause-writes c =
    let disk = c.args.self.now in
    let size = disk.sector_size in
    let count = c.args.extent.count in
    let bytes = c.args.bytes.now in
    let place = c.places-start in
    record {
      moved = first_chunks size count bytes;
      bytes_are = concat-first_chunks size count bytes c.requires.long;
      covers = length-first_chunks size count bytes;
      whole = All-first_chunks size count bytes c.requires.long;
      after = ap (λ sectors. record (shown disk) { sectors = sectors; bad = c.check.new.self.sectors.items; failures = c.check.new.self.failures })
          (sectors_written size disk.sectors c.args.extent.first count place.result.0 place.result.1 disk.bytes.len
          disk.bytes.items c.deref_mut.result.now bytes c.copy_from_slice.new.self disk.filled
          (within_sectors disk c.args.extent c.requires.within)
          place.ensures.start place.ensures.end c.requires.long c.deref_mut.ensures.value c.deref_mut.ensures.len c.copy_from_slice.ensures.after)
          ∙ ap (λ bad. record (shown disk) {
            sectors = splice (shown disk).sectors c.args.extent.first (first_chunks size count bytes);
            bad = bad.sectors.items;
            failures = bad.failures;
          }) c.in_ok-check.ensures.passes;
    }
