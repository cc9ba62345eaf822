-- What a disk shows of which only the first sector is there.
use Rattle.std.specs.Prelude.{◌≡◌, ℕ, ◌-◌, List, [], ◌∷◌, length, replicate, All}
use Rattle.std.specs.List.{range_with_len}
use Rattle.std.proofs.lemmas.List.{length-replicate}
use Rattle.std.proofs.lemmas.List.Elements.{All-cons, All-replicate}
use Rattle.sector.specs.Extents.{IsSector}
use Rattle.disk.specs.Medium.{MediumView}
use Rattle.miniport.specs.declared.first_sector.FirstSector.{FirstSector}

-- the first sector, and zeros for each other
abbrev pub sectors_from : ℕ → ℕ → List ℕ → List (List ℕ)
sectors_from size sectors first = first ∷ replicate (sectors - 1) (replicate {A = ℕ} size 0)

-- all sectors but the first can't be read or written
abbrev pub shown : FirstSector → MediumView
shown disk = record {
  sector_size = disk.sector_size;
  sectors = sectors_from disk.sector_size disk.sectors disk.first.items;
  bad = range_with_len 1 (disk.sectors - 1);
  reserved = (record { first = 0; count = disk.sectors }) ∷ [];
  run = 1;
  failures = disk.failures;
}

-- the disk has this many sectors, of which this is the first, and no call has failed
pub record IsFirst (first : List ℕ) (sectors : ℕ) (view : MediumView) : Type 0 where
  pub size_is : view.sector_size ≡ length first
  pub count_is : length view.sectors ≡ sectors
  pub sectors_are : view.sectors ≡ sectors_from (length first) sectors first
  pub none_failed : view.failures ≡ 0

pub all_whole : (size sectors : ℕ) (first : List ℕ) → length first ≡ size → All (IsSector size) (sectors_from size sectors first)
all_whole size sectors first filled = All-cons (IsSector size) first (replicate (sectors - 1) (replicate {A = ℕ} size 0)) filled
    (All-replicate (IsSector size) (sectors - 1) (replicate {A = ℕ} size 0) (length-replicate {A = ℕ} size 0))
