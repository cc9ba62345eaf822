-- What a disk in memory shows.
use Rattle.std.specs.Prelude.{[], ◌∷◌}
use Rattle.std.specs.Simd.{first_chunks}
use Rattle.disk.specs.Medium.{MediumView}
use Rattle.disk.specs.declared.vec_disk.VecDisk.{VecDisk}

-- the disk's memory, cut into sectors; the whole disk is reserved
abbrev pub shown : VecDisk → MediumView
shown disk = record {
  sector_size = disk.sector_size;
  sectors = first_chunks disk.sector_size disk.sectors disk.bytes.items;
  bad = disk.bad.sectors.items;
  reserved = (record { first = 0; count = disk.sectors }) ∷ [];
  run = 1;
  failures = disk.bad.failures;
}
