use Rattle.std.proofs.Common.{sym}
use Rattle.std.proofs.lemmas.List.FromFn.{length-map-range_with_len}
use Rattle.disk.specs.SparseDisk.{sector_of}
use Rattle.disk.proofs.sparse_disk.SparseDiskMedium.sectors.Goals as goal

pub returns : goal.returns
returns c = let chunks = c.args.self.now.chunks in sym (length-map-range_with_len (sector_of chunks) 0 chunks.sectors)
