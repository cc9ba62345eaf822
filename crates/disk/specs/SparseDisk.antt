-- What a sparse disk shows, and what becomes of its chunks.
use Rattle.std.specs.Prelude.{ℕ, List, map}
use Rattle.std.specs.List.{range_with_len}
use Rattle.std.specs.HashMap.{keys}
use Rattle.sector.specs.declared.Extent.{Extent}
use Rattle.disk.specs.declared.chunks.Chunks.{Chunks}
use Rattle.disk.specs.declared.sparse_disk.SparseDisk.{SparseDisk}
use Rattle.disk.specs.Medium.{MediumView}
use Rattle.disk.specs.Sparse.{chunk_of, sector_at}

-- the bytes of a sector
abbrev pub sector_of : Chunks → ℕ → List ℕ
sector_of chunks sector = sector_at chunks.sector_size chunks.sectors chunks.by_number sector

-- the sectors of an extent
abbrev pub sectors_of : Chunks → Extent → List (List ℕ)
sectors_of chunks extent = map (sector_of chunks) (range_with_len extent.first extent.count)

-- a disk where a sector may be written if its chunk is there
abbrev pub shown : SparseDisk → MediumView
shown disk = record {
  sector_size = disk.chunks.sector_size;
  sectors = sectors_of disk.chunks (record { first = 0; count = disk.chunks.sectors });
  bad = disk.bad.sectors.items;
  reserved = map (chunk_of disk.chunks.sectors) (keys disk.chunks.by_number);
  run = 64;
  failures = disk.bad.failures;
}
