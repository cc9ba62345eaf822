use Rattle.std.specs.Simd.{first_chunks}
use Rattle.disk.specs.inside.Chunks.{All-first_chunks}
use Rattle.disk.proofs.Cutting.{length-first_chunks, concat-first_chunks}
use Rattle.disk.proofs.SparseShown.{shown_written, there_from_reserved, within_chunks, writes_sectors}
use Rattle.disk.proofs.sparse_disk.SparseDiskMedium.write.Goals as goal

pub write-requires-clause-within : goal.write-requires-clause-within
write-requires-clause-within c = within_chunks c.args.self.now c.args.extent c.requires.within

pub write-requires-clause-there : goal.write-requires-clause-there
write-requires-clause-there c = there_from_reserved c.args.self.now c.args.extent c.requires.reserved

pub returns-clause-writes : goal.returns-clause-writes
returns-clause-writes c =
    let disk = c.args.self.now in
    let size = disk.chunks.sector_size in
    let count = c.args.extent.count in
    let bytes = c.args.bytes.now in
    record {
      moved = first_chunks size count bytes;
      bytes_are = concat-first_chunks size count bytes c.requires.long;
      covers = length-first_chunks size count bytes;
      whole = All-first_chunks size count bytes c.requires.long;
      after = shown_written disk c.write.new.self c.check.new.self _ c.write.ensures.sizes
          (writes_sectors c.args.extent bytes disk.chunks c.write.new.self c.write.ensures (within_chunks disk c.args.extent c.requires.within))
          c.write.ensures.same_keys c.in_ok-check.ensures.passes;
    }
