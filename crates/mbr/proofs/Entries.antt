-- The entries of a table, one after the other.
use Rattle.std.proofs.Common.{◌≡◌, ◌≢◌, ◌<◌, ◌≤◌, ◌+◌, ◌-◌, ◌*◌, ◌==◌, ℕ, zero, suc, Bool, not, cond, List, [], ◌∷◌, ◌++◌, length, map, take, drop, get_or, refl, sym, ap, ◌∙◌, arith, length-append}
use Rattle.std.proofs.lemmas.Bool.{ne_eqb}
use Rattle.std.proofs.lemmas.List.{append-nil, length-drop, map-append, take_all, take_more}
use Rattle.std.proofs.lemmas.List.Elements.{filter-append}
use Rattle.std.specs.List.{filter}
use Rattle.sector.specs.declared.Extent.{Extent}
use Rattle.mbr.specs.Table.{Entry, entry_of, entries_of, is_used, partitions_of}

-- the sectors of an entry
abbrev extent_of : Entry → Extent
extent_of entry = entry.1

pub partitions_of-append : (xs ys : List Entry) → partitions_of (xs ++ ys) ≡ partitions_of xs ++ partitions_of ys
partitions_of-append xs ys =
    ap (map extent_of) (filter-append is_used xs ys) ∙ map-append extent_of (filter is_used xs) (filter is_used ys)

-- a used entry is a partition
used_one : (entry : Entry) → entry.0 ≢ 0 → partitions_of (entry ∷ []) ≡ entry.1 ∷ []
used_one entry used = ap (λ (unused : Bool). map extent_of (cond (not unused) (entry ∷ []) [])) (ne_eqb entry.0 0 used)

-- an unused one is none
unused_one : (entry : Entry) → entry.0 ≡ 0 → partitions_of (entry ∷ []) ≡ []
unused_one entry unused = ap (λ (kind : ℕ). map extent_of (cond (not (kind == 0)) (entry ∷ []) [])) unused

-- the entry at a place
entry_at : (table : List ℕ) (n : ℕ) → n < 4 → (d : Entry) → get_or (entries_of table) n d ≡ entry_of (drop (446 + 16 * n) table)
entry_at table zero within d = refl
entry_at table (suc zero) within d = refl
entry_at table (suc (suc zero)) within d = refl
entry_at table (suc (suc (suc zero))) within d = refl
entry_at table (suc (suc (suc (suc n)))) within d = absurd (omega (arith, within))

-- the bytes of a slice from a place on are all that follow
from_place : (table : List ℕ) (place : ℕ) → take (length table - place) (drop place table) ≡ drop place table
from_place table place = take_all (length table - place) (drop place table) (omega (arith, length-drop place table))

-- the entry of this number, read from a slice of the table
abbrev pub IsReadAt : List ℕ → ℕ → Entry → Type 0
IsReadAt table n entry = entry ≡ entry_of (take (length table - (446 + n * 16)) (drop (446 + n * 16) table))

-- the partitions of the first this many entries
abbrev pub partitions_to : List ℕ → ℕ → List Extent
partitions_to table n = partitions_of (take n (entries_of table))

-- one entry more was looked at
one_more : (table : List ℕ) (n : ℕ) (entry : Entry) → n < 4 → IsReadAt table n entry
    → partitions_to table (n + 1) ≡ partitions_to table n ++ partitions_of (entry ∷ [])
one_more table n entry within is =
    let place : 446 + n * 16 ≡ 446 + 16 * n = omega arith in
    let here : entry_of (drop (446 + 16 * n) table) ≡ entry =
    sym (is ∙ ap entry_of (from_place table (446 + n * 16)) ∙ ap (λ (k : ℕ). entry_of (drop k table)) place) in
    let before : List Entry = take n (entries_of table) in
    let more : take (n + 1) (entries_of table) ≡ before ++ entry ∷ [] =
    take_more (entries_of table) n entry within ∙ ap (λ (e : Entry). before ++ e ∷ []) (entry_at table n within entry ∙ here) in
    ap partitions_of more ∙ partitions_of-append before (entry ∷ [])

-- the partitions of the first this many entries were found, no more than entries
pub record HasFound (table : List ℕ) (n : ℕ) (found : List Extent) : Type 0 where
  pub all : found ≡ partitions_to table n
  pub few : length found ≤ n

-- so it is after a used entry, and after an unused one
pub used_more : (table : List ℕ) (n : ℕ) (entry : Entry) (found : List Extent) → n < 4 → IsReadAt table n entry → entry.0 ≢ 0
    → HasFound table n found → HasFound table (n + 1) (found ++ entry.1 ∷ [])
used_more table n entry found within is used so_far = record {
  all = ap (λ (xs : List Extent). xs ++ entry.1 ∷ []) so_far.all
      ∙ ap (λ (xs : List Extent). partitions_to table n ++ xs) (sym (used_one entry used)) ∙ sym (one_more table n entry within is);
  few = let long = length-append found (entry.1 ∷ []) in omega (arith, so_far.few);
}

pub unused_more : (table : List ℕ) (n : ℕ) (entry : Entry) (found : List Extent) → n < 4 → IsReadAt table n entry → entry.0 ≡ 0
    → HasFound table n found → HasFound table (n + 1) found
unused_more table n entry found within is unused so_far = record {
  all = so_far.all ∙ sym (append-nil (partitions_to table n))
      ∙ ap (λ (xs : List Extent). partitions_to table n ++ xs) (sym (unused_one entry unused)) ∙ sym (one_more table n entry within is);
  few = omega (arith, so_far.few);
}

-- all four were looked at
pub all_four : (table : List ℕ) (n : ℕ) (found : List Extent) → 4 ≤ n → n ≤ 4 → HasFound table n found
    → found ≡ partitions_of (entries_of table)
all_four table n found some most so_far = let four : n ≡ 4 = omega arith in so_far.all ∙ ap (partitions_to table) four
