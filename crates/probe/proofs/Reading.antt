-- The table that is read is that of the disk.
use Rattle.std.proofs.Common.{append-nil, ◌≡◌, ◌+◌, ℕ, List, [], ◌∷◌, refl, sym, ◌∙◌, ap, subst, length, get_or, Result}
use Rattle.std.specs.Prelude.{slice_range}
use Rattle.std.specs.List.{concat}
use Rattle.sector.specs.declared.Extent.{Extent}
use Rattle.machine.specs.Map.{IsMap}
use Rattle.adapter.specs.View.{AdapterView}
use Rattle.mbr.specs.declared.MbrFault.{MbrFault}
use Rattle.mbr.specs.Faults.{told_by}
use Rattle.probe.specs.Exchange.{IsSameDisk}
use Rattle.probe.specs.inside.Exchange.{bytes_brought}
use Rattle.probe.specs.Probing.{HasPartitions, sector_zero, table_read, told_partitions}

-- a read of the first sector brings its bytes, or none where there is no sector
first_sector : (sectors : List (List ℕ)) → concat (slice_range sectors 0 (0 + 1)) ≡ get_or sectors 0 []
first_sector [] = refl
first_sector (first ∷ rest) = append-nil first

-- what these bytes say is what the table says
pub told_of : (disk : AdapterView) (bytes : List ℕ) (sectors : ℕ) (said : Result (List Extent) MbrFault)
    → bytes ≡ bytes_brought disk table_read → sectors ≡ length disk.sectors → said ≡ told_by sectors bytes → told_partitions disk ≡ said
told_of disk bytes sectors said brought many says =
    let first : bytes ≡ sector_zero disk = brought ∙ first_sector disk.sectors in
    sym (says ∙ ap (λ (n : ℕ). told_by n bytes) many ∙ ap (λ (xs : List ℕ). told_by (length disk.sectors) xs) first)

-- the same sectors hold the same table
pub same_table : (disk between : AdapterView) (asked : ℕ) → IsSameDisk asked disk between → told_partitions between ≡ told_partitions disk
same_table disk between asked same = ap (λ (xs : List (List ℕ)). told_by (length xs) (get_or xs 0 [])) same.sectors

-- and the same partitions
pub same_partitions : (disk between : AdapterView) (asked : ℕ) (partitions : List Extent)
    → IsSameDisk asked disk between → HasPartitions between partitions → HasPartitions disk partitions
same_partitions disk between asked partitions same h = record {
  told = sym (same_table disk between asked same) ∙ h.told;
  is_map = subst (λ (xs : List (List ℕ)). IsMap (length xs) partitions) same.sectors h.is_map;
}
