-- A table that was written, read again.
use Rattle.std.proofs.Common.{◌≡◌, ◌≤◌, ◌+◌, ◌-◌, ◌*◌, ◌==◌, ◌&&◌, ℕ, zero, suc, true, List, [], ◌∷◌, ◌++◌, length, drop, replicate, slice_index, All, refl, sym, ap, ◌∙◌, arith, zero-add, suc-add, append_assoc, length-append}
use Rattle.std.specs.List.{flat_map}
use Rattle.std.proofs.lemmas.List.{append-nil, drop-drop, get_or-append_right, length-replicate}
use Rattle.std.proofs.lemmas.List.Elements.{All-head, All-tail}
use Rattle.byteorder.specs.Endian.{little_from, little_bytes}
use Rattle.byteorder.specs.Numbers.{little_number-reads_back}
use Rattle.sector.specs.declared.Extent.{Extent}
use Rattle.mbr.specs.Table.{Entry, FitsEntry, entry_of, entries_of, entry_bytes, is_signed, partitions_of, table_bytes}
use Rattle.mbr.specs.Faults.{said_of, told_by, partitions_fault, unless_fault}
use Rattle.mbr.proofs.Answering.{by_entries}
use Rattle.mbr.proofs.Entries.{partitions_of-append}

-- the entries that were written, and the zeros of those that were not
abbrev pub written : List Entry → List ℕ
written entries = flat_map entry_bytes entries

abbrev pub blank : List Entry → List ℕ
blank entries = replicate (64 - 16 * length entries) 0

-- the signature and what follows it
abbrev signed_by : List ℕ → List ℕ
signed_by more = 0x55 ∷ 0xAA ∷ more

-- a table with something behind it
abbrev followed : List Entry → List ℕ → List ℕ
followed entries more = replicate 446 0 ++ (written entries ++ (blank entries ++ signed_by more))

-- the bytes of an entry say what it says, whatever comes behind them
says : (entry : Entry) (rest : List ℕ) → FitsEntry entry → entry_of (entry_bytes entry ++ rest) ≡ entry
says entry rest fits =
    let counted : List ℕ = little_bytes 4 entry.1.count ++ rest in
    let bytes : List ℕ = entry_bytes entry ++ rest in
    let first : little_from 8 4 bytes ≡ entry.1.first = little_number-reads_back 4 entry.1.first counted fits.first in
    let count : little_from 12 4 bytes ≡ entry.1.count = little_number-reads_back 4 entry.1.count rest fits.count in
    let with_numbers : ℕ → ℕ → Entry = λ (f : ℕ) (c : ℕ). (entry.0, record { first = f; count = c }) in
    ap (λ (f : ℕ). with_numbers f (little_from 12 4 bytes)) first ∙ ap (with_numbers entry.1.first) count

-- this many entries, one after the other from the first byte on
abbrev entries_in : ℕ → List ℕ → List Entry
entries_in zero bytes = []
entries_in (suc k) bytes = entry_of bytes ∷ entries_in k (drop 16 bytes)

-- the four of a table stand behind its code
four_in : (rest : List ℕ) → entries_of (replicate 446 0 ++ rest) ≡ entries_in 4 rest
four_in rest =
    let two : drop 16 (drop 16 rest) ≡ drop 32 rest = drop-drop 16 16 rest in
    let three : drop 16 (drop 32 rest) ≡ drop 48 rest = drop-drop 16 32 rest in
    let four : List ℕ → List ℕ → List Entry =
    λ (c : List ℕ) (d : List ℕ). entry_of rest ∷ entry_of (drop 16 rest) ∷ entry_of c ∷ entry_of d ∷ [] in
    sym (ap (λ (c : List ℕ). four c (drop 16 c)) two ∙ ap (four (drop 32 rest)) three)

-- those that were written, and what comes behind them
along : (entries : List Entry) (k : ℕ) (rest : List ℕ) → All FitsEntry entries
    → entries_in (length entries + k) (written entries ++ rest) ≡ entries ++ entries_in k rest
along [] k rest fit = ap (λ (n : ℕ). entries_in n rest) (zero-add k)
along (entry ∷ entries) k rest fit =
    let left : List ℕ = written entries ++ rest in
    let here : entry_of (entry_bytes entry ++ left) ≡ entry = says entry left (All-head FitsEntry entry entries fit) in
    ap (λ (n : ℕ). entries_in n (entry_bytes entry ++ left)) (suc-add (length entries) k)
    ∙ ap (λ (e : Entry). e ∷ entries_in (length entries + k) left) here
    ∙ ap (λ (es : List Entry). entry ∷ es) (along entries k rest (All-tail FitsEntry entry entries fit))

-- zeros are unused entries
none_in : (k : ℕ) (rest : List ℕ) → k ≤ 4 → partitions_of (entries_in k (replicate (16 * k) 0 ++ rest)) ≡ []
none_in zero rest few = refl
none_in (suc zero) rest few = refl
none_in (suc (suc zero)) rest few = refl
none_in (suc (suc (suc zero))) rest few = refl
none_in (suc (suc (suc (suc zero)))) rest few = refl
none_in (suc (suc (suc (suc (suc k))))) rest few = absurd (omega (arith, few))

-- a table of entries has the partitions of the entries
same_partitions : (entries : List Entry) (more : List ℕ) → length entries ≤ 4 → All FitsEntry entries
    → partitions_of (entries_of (followed entries more)) ≡ partitions_of entries
same_partitions entries more few fit =
    let k : ℕ = 4 - length entries in
    let rest : List ℕ = blank entries ++ signed_by more in
    let four : 4 ≡ length entries + k = omega arith in
    let zeros : 64 - 16 * length entries ≡ 16 * k = omega arith in
    let all : entries_of (followed entries more) ≡ entries ++ entries_in k rest =
    four_in (written entries ++ rest) ∙ ap (λ (n : ℕ). entries_in n (written entries ++ rest)) four ∙ along entries k rest fit in
    ap partitions_of all ∙ partitions_of-append entries (entries_in k rest)
    ∙ ap (λ (n : ℕ). partitions_of entries ++ partitions_of (entries_in k (replicate n 0 ++ signed_by more))) zeros
    ∙ ap (λ (es : List Extent). partitions_of entries ++ es) (none_in k (signed_by more) (omega arith))
    ∙ append-nil (partitions_of entries)

length-written : (entries : List Entry) → length (written entries) ≡ 16 * length entries
length-written [] = refl
length-written (entry ∷ entries) = omega (arith, length-written entries, length-append (entry_bytes entry) (written entries))

length-blank : (entries : List Entry) → length (blank entries) ≡ 64 - 16 * length entries
length-blank entries = length-replicate {A = ℕ} (64 - 16 * length entries) 0

length-followed : (entries : List Entry) (more : List ℕ) → length entries ≤ 4 → length (followed entries more) ≡ 512 + length more
length-followed entries more few =
    let end = length-append (blank entries) (signed_by more) in
    let all = length-append (written entries) (blank entries ++ signed_by more) in
    omega (arith, length-written entries, length-blank entries)

-- a table has 512 bytes
pub whole : (entries : List Entry) → length entries ≤ 4 → length (table_bytes entries) ≡ 512
whole entries few = length-followed entries [] few

-- behind the entries and the zeros stands the signature
at_end : (entries : List Entry) (more : List ℕ) (i : ℕ) → length entries ≤ 4
    → slice_index (written entries ++ (blank entries ++ signed_by more)) (64 + i) ≡ slice_index (signed_by more) i
at_end entries more i few =
    let long : ℕ = 16 * length entries in
    let rest : List ℕ = signed_by more in
    let place : 64 + i - long - (64 - long) ≡ i = omega arith in
    get_or-append_right (written entries) (blank entries ++ rest) long (64 + i) 0 (length-written entries) (omega arith)
    ∙ get_or-append_right (blank entries) rest (64 - long) (64 + i - long) 0 (length-blank entries) (omega arith)
    ∙ ap (slice_index rest) place

signed : (entries : List Entry) (more : List ℕ) → length entries ≤ 4 → is_signed (followed entries more) ≡ true
signed entries more few =
    let second : ℕ = slice_index (followed entries more) 511 in
    ap (λ (byte : ℕ). (byte == 0x55) && (second == 0xAA)) (at_end entries more 0 few)
    ∙ ap (λ (byte : ℕ). byte == 0xAA) (at_end entries more 1 few)

-- the bytes of a table of entries, and whatever follows them, say what the entries say
told_back : (entries : List Entry) (more : List ℕ) (sectors : ℕ) → length entries ≤ 4 → All FitsEntry entries
    → told_by sectors (followed entries more) ≡ said_of sectors entries
told_back entries more sectors few fit =
    by_entries sectors (followed entries more) (omega (arith, length-followed entries more few)) (signed entries more few)
    ∙ ap (λ (xs : List Extent). unless_fault (partitions_fault sectors xs) xs) (same_partitions entries more few fit)

pub read_back : (entries : List Entry) (sectors : ℕ) → length entries ≤ 4 → All FitsEntry entries
    → told_by sectors (table_bytes entries) ≡ said_of sectors entries
read_back entries sectors few fit = told_back entries [] sectors few fit

pub read_back_followed : (entries : List Entry) (sectors : ℕ) (more : List ℕ) → length entries ≤ 4 → All FitsEntry entries
    → told_by sectors (table_bytes entries ++ more) ≡ said_of sectors entries
read_back_followed entries sectors more few fit =
    let same : (written entries ++ (blank entries ++ signed_by [])) ++ more ≡ written entries ++ (blank entries ++ signed_by more) =
    append_assoc (written entries) (blank entries ++ signed_by []) more
    ∙ ap (λ (xs : List ℕ). written entries ++ xs) (append_assoc (blank entries) (signed_by []) more) in
    ap (λ (xs : List ℕ). told_by sectors (replicate 446 0 ++ xs)) same ∙ told_back entries more sectors few fit
