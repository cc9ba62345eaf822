-- The partition table in the first 512 bytes of sector 0, and the bytes that give it.
use Rattle.std.specs.Prelude.{ℕ, ◌+◌, ◌-◌, ◌*◌, ◌^◌, ◌<◌, ◌==◌, ◌&&◌, Bool, not, List, [], ◌∷◌, ◌++◌, length, map, drop}
use Rattle.std.specs.Prelude.{replicate, slice_index}
use Rattle.std.specs.List.{filter, flat_map}
use Rattle.byteorder.specs.Endian.{little_from, little_bytes}
use Rattle.sector.specs.declared.Extent.{Extent}

-- an entry: its type, where 0 is unused, and its sectors
abbrev pub Entry : Type 0
Entry = ℕ × Extent

-- what an entry's bytes say: the type in byte 4, the first sector in bytes 8 to 11, the number of sectors in 12 to 15,
-- lowest byte first
abbrev pub entry_of : List ℕ → Entry
entry_of bytes = (slice_index bytes 4, record { first = little_from 8 4 bytes; count = little_from 12 4 bytes })

-- the four entries, of sixteen bytes each from byte 446 on
abbrev pub entries_of : List ℕ → List Entry
entries_of table = map (λ n. entry_of (drop (446 + 16 * n) table)) (0 ∷ 1 ∷ 2 ∷ 3 ∷ [])

-- bytes 510 and 511 are 55h AAh
abbrev pub is_signed : List ℕ → Bool
is_signed table = (slice_index table 510 == 0x55) && (slice_index table 511 == 0xAA)

-- the entry is used
abbrev pub is_used : Entry → Bool
is_used entry = not (entry.0 == 0)

-- the sectors of the used entries, in table order
abbrev pub partitions_of : List Entry → List Extent
partitions_of entries = map (λ entry. entry.1) (filter is_used entries)

-- the numbers of the entry have four bytes each
pub record FitsEntry (entry : Entry) : Type 0 where
  pub first : entry.1.first < 2 ^ 32
  pub count : entry.1.count < 2 ^ 32

-- the sixteen bytes of an entry, 0 where it has no field
abbrev pub entry_bytes : Entry → List ℕ
entry_bytes entry = 0 ∷ 0 ∷ 0 ∷ 0 ∷ entry.0 ∷ 0 ∷ 0 ∷ 0 ∷ (little_bytes 4 entry.1.first ++ little_bytes 4 entry.1.count)

-- the 512 bytes of a table of at most four entries: they stand from the first place on, then comes the signature, and 0
-- is elsewhere
abbrev pub table_bytes : List Entry → List ℕ
table_bytes entries =
    replicate 446 0 ++ (flat_map entry_bytes entries ++ (replicate (64 - 16 * length entries) 0 ++ 0x55 ∷ 0xAA ∷ []))
