-- The settings of a disk whose numbers are in their ranges are in theirs.
use Rattle.std.proofs.Common.{◌≡◌, ◌≤◌, ◌<◌, ℕ, nat_lt, true, All, List, [], ◌∷◌, length, map, arith, subst}
use Rattle.std.specs.List.{list_all}
use Rattle.std.proofs.lemmas.Bool.{and_parts, leb-true, ltb-true}
use Rattle.std.proofs.lemmas.List.{length-map, length-take}
use Rattle.std.proofs.lemmas.List.Elements.{All-nil, All-cons, All-head, All-tail}
use Rattle.settings.specs.declared.Config.{Config}
use Rattle.settings.specs.InRange.{AreInRange, IsUsed}
use Rattle.saddlemug.specs.declared.memory_disk.MemoryDisk.{MemoryDisk}
use Rattle.saddlemug.specs.declared.memory_disk.MemoryPartition.{MemoryPartition}
use Rattle.saddlemug.specs.InMemory.{AreTold, IsDisk, is_used, partition_of, told}

all_below : (count : ℕ) (bad : List ℕ) → list_all (λ sector. nat_lt sector count) bad ≡ true → All (λ sector. sector < count) bad
all_below count [] e = All-nil (λ sector. sector < count)
all_below count (s ∷ bad) e =
    let parts = and_parts _ _ e in
    All-cons (λ sector. sector < count) s bad (ltb-true s count parts.0) (all_below count bad parts.1)

all_used : (ps : List MemoryPartition) → list_all is_used ps ≡ true → All (λ p. p.kind ≤ 255) (map partition_of ps) → All IsUsed (map partition_of ps)
all_used [] e bytes = All-nil IsUsed
all_used (p ∷ ps) e bytes =
    let parts = and_parts _ _ e in
    All-cons IsUsed (partition_of p) (map partition_of ps)
    (leb-true 1 p.kind parts.0, All-head (λ q. q.kind ≤ 255) (partition_of p) (map partition_of ps) bytes)
    (all_used ps parts.1 (All-tail (λ q. q.kind ≤ 255) (partition_of p) (map partition_of ps) bytes))

pub in_range : (d : MemoryDisk) (bad : List ℕ) (c : Config) → IsDisk d bad → AreTold d bad c → All (λ p. p.kind ≤ 255) c.partitions.items → AreInRange c
in_range d bad c is t bytes =
    let few : length (map partition_of (told d)) ≤ 4 = omega (arith, length-map (told d) partition_of, length-take d.partition_count d.partitions, is.in_range.few_partitions) in
    record {
      sector_size = rw (t.sector_size) (is.in_range.sector_size);
      sectors = rw (t.sectors) (is.in_range.sectors);
      max_transfer = rw (t.max_transfer) (is.in_range.max_transfer);
      depth = rw (t.depth) (is.in_range.depth);
      window = rw (t.window) (is.in_range.window);
      open_requests = rw (t.open_requests) (is.in_range.open_requests);
      bad_sectors = rw (t.bad_sectors, t.sectors) (all_below d.sectors bad is.bad_sectors);
      few_partitions = rw (t.partitions) few;
      partitions = rw (t.partitions) (all_used (told d) is.partitions (subst (λ ps. All (λ p. p.kind ≤ 255) ps) t.partitions bytes));
    }
