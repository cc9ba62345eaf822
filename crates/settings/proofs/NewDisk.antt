-- The disk of some settings, and the adapter over it.
use Rattle.std.proofs.Common.{◌≡◌, ℕ, ◌-◌, ◌≤◌, ◌<◌, List, [], ◌∷◌, ◌++◌, map, Bool, true, IsTrue, length, replicate, get_or, Contains, ◌↔◌, arith, refl, sym, ap, ◌∙◌, subst}
use Rattle.std.proofs.lemmas.List.{length-replicate}
use Rattle.disk.specs.Medium.{MediumView, StartsWith, HasWholeSectors}
use Rattle.miniport.specs.Memory.{MemView, new_view}
use Rattle.sector.specs.Extents.{sectors_in}
use Rattle.mbr.specs.Table.{Entry, table_bytes}
use Rattle.mbr.specs.Faults.{said_of, told_by}
use Rattle.settings.specs.declared.Config.{Config}
use Rattle.settings.specs.declared.Partition.{Partition}
use Rattle.settings.specs.InRange.{AreInRange}
use Rattle.settings.specs.Medium.{HasBlankPartitions, IsNewAdapter, IsNewDisk, disk_of, entries_of, entry_of, table_sector}
use Rattle.settings.proofs.WholeSectors.{first_then_zeros, zeros_in}

-- a table with zeros behind it
pub padded_table : (size : ℕ) (entries named : List Entry) (table shown sector : List ℕ) → entries ≡ named → table ≡ table_bytes entries
    → length table ≡ 512 → shown ≡ table → sector ≡ shown ++ replicate (size - length shown) 0 → sector ≡ table_bytes named ++ replicate (size - 512) 0
padded_table size entries named table shown sector are bytes long is padded =
    let many : length shown ≡ 512 = ap length is ∙ long in
    let same : shown ≡ table_bytes named = is ∙ (bytes ∙ ap table_bytes are) in
    padded ∙ (ap (λ (n : ℕ). shown ++ replicate (size - n) 0) many ∙ ap (λ (l : List ℕ). l ++ replicate (size - 512) 0) same)

-- it says what its entries say
pub padded_says : (size : ℕ) (entries named : List Entry) (table shown sector : List ℕ) → entries ≡ named → shown ≡ table
    → ((sectors : ℕ) (more : List ℕ) → told_by sectors (table ++ more) ≡ said_of sectors entries)
    → sector ≡ shown ++ replicate (size - length shown) 0 → (sectors : ℕ) → told_by sectors sector ≡ said_of sectors named
padded_says size entries named table shown sector are is followed padded sectors =
    let more : List ℕ = replicate (size - length shown) 0 in
    ap (told_by sectors) (padded ∙ ap (λ (l : List ℕ). l ++ more) is) ∙ (followed sectors more ∙ ap (said_of sectors) are)

-- the entries that a table has are those of the settings
pub entries_are : (c : Config) (entries : List Entry) (partitions : List Partition) → entries ≡ map entry_of partitions → partitions ≡ c.partitions.items
    → entries ≡ entries_of c
entries_are c entries partitions are same = are ∙ ap (λ (ps : List Partition). map entry_of ps) same

new_sectors : (c : Config) (medium : MediumView) (first : List ℕ) → AreInRange c → StartsWith medium c.sector_size c.sectors first
    → HasWholeSectors medium → first ≡ table_sector c → length first ≡ c.sector_size → medium.sectors ≡ disk_of c
new_sectors c medium first settings starts whole same long =
    let some : 0 < c.sectors = omega (arith, settings.sectors.0) in
    let are_whole = subst (λ (size : ℕ). HasWholeSectors (record medium { sector_size = size })) starts.size_is whole in
    first_then_zeros c.sector_size c.sectors first medium.sectors are_whole starts.count_is some long starts.bytes_are
    ∙ ap (λ (l : List ℕ). l ∷ replicate (c.sectors - 1) (replicate c.sector_size 0)) same

-- a disk that starts with sector 0 of the settings is theirs
pub new_disk : (c : Config) (medium : MediumView) (first : List ℕ) → AreInRange c → StartsWith medium c.sector_size c.sectors first
    → HasWholeSectors medium → ((sector : ℕ) → Contains medium.bad sector ↔ Contains c.bad_sectors.items sector)
    → first ≡ table_sector c → length first ≡ c.sector_size → IsNewDisk c medium
new_disk c medium first settings starts whole bad same long = record {
  sector_size = starts.size_is;
  sectors = new_sectors c medium first settings starts whole same long;
  bad = bad;
  none_failed = starts.none_failed;
}

-- its first sector says what the settings say
pub says : (c : Config) (medium : MediumView) (first : List ℕ) → IsNewDisk c medium → first ≡ table_sector c
    → ((sectors : ℕ) → told_by sectors first ≡ said_of sectors (entries_of c))
    → (sectors : ℕ) → told_by sectors (get_or medium.sectors 0 []) ≡ said_of sectors (entries_of c)
says c medium first new same told sectors =
    let is : get_or medium.sectors 0 [] ≡ first = ap (λ (xs : List (List ℕ)). get_or xs 0 []) new.sectors ∙ sym same in
    ap (told_by sectors) is ∙ told sectors

pub count_of_disk : (c : Config) → 1 ≤ c.sectors → length (disk_of c) ≡ c.sectors
count_of_disk c some = omega (arith, length-replicate {A = List ℕ} (c.sectors - 1) (replicate c.sector_size 0))

-- the adapter of which a new one over the disk of the settings is made
abbrev pub IsMadeOf : Config → MediumView → Bool → MemView → MemView → Type 0
IsMadeOf c medium keeps first view =
    (first ≡ new_view medium c.max_transfer c.depth c.write_protected) × (view ≡ record first { shown = record first.shown { keeps_bytes = keeps } })

-- is theirs
pub new_adapter : (c : Config) (medium : MediumView) (keeps : Bool) (first view : MemView) → AreInRange c → IsNewDisk c medium → IsMadeOf c medium keeps first view → IsNewAdapter c view
new_adapter c medium keeps first view settings disk made =
    let new = new_view medium c.max_transfer c.depth c.write_protected in
    let is : view ≡ record new { shown = record new.shown { keeps_bytes = keeps } } = made.1 ∙ ap (λ (v : MemView). record v { shown = record v.shown { keeps_bytes = keeps } }) made.0 in
    subst (IsNewAdapter c) (sym is) (record {
      sector_size = disk.sector_size;
      sectors = disk.sectors;
      count = ap length disk.sectors ∙ count_of_disk c settings.sectors.0;
      faithful = refl;
      max_transfer = refl;
      depth = refl;
      no_tags = refl;
      no_labels = refl;
      none_accepted = refl;
      bad = disk.bad;
      write_protected = refl;
      none_due = refl;
    })

-- the table that it has says what the settings say
pub adapter_told : (c : Config) (medium : MediumView) (keeps : Bool) (first view : MemView)
    → ((sectors : ℕ) → told_by sectors (get_or medium.sectors 0 []) ≡ said_of sectors (entries_of c))
    → IsMadeOf c medium keeps first view → told_by c.sectors (get_or view.shown.sectors 0 []) ≡ said_of c.sectors (entries_of c)
adapter_told c medium keeps first view told made =
    ap (λ (v : MemView). told_by c.sectors (get_or v.shown.sectors 0 [])) made.1
    ∙ (ap (λ (v : MemView). told_by c.sectors (get_or v.shown.sectors 0 [])) made.0 ∙ told c.sectors)

-- an adapter of which memory keeps the bytes of labels is one that keeps them
pub kept_already : (view : MemView) (keeps : Bool) → IsTrue view.shown.keeps_bytes → keeps ≡ true → view ≡ record view { shown = record view.shown { keeps_bytes = keeps } }
kept_already view keeps is asked = ap (λ (k : Bool). record view { shown = record view.shown { keeps_bytes = k } }) (is ∙ sym asked)

-- what settings name as partitions has zeros alone
pub blank : (c : Config) (sectors : List (List ℕ)) → sectors ≡ disk_of c → HasBlankPartitions c sectors
blank c sectors same extent is =
    ap (λ (xs : List (List ℕ)). sectors_in xs extent) same
    ∙ zeros_in c.sector_size c.sectors extent.first extent.count (table_sector c) is.behind_table is.inside
