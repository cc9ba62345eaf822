-- A table as it is written, entry by entry.
use Rattle.std.proofs.Common.{◌≡◌, ◌<◌, ◌≤◌, ◌+◌, ◌-◌, ◌*◌, ℕ, List, [], ◌∷◌, ◌++◌, length, take, drop, get_or, replicate, sym, ap, ◌∙◌, arith, append_assoc}
use Rattle.std.proofs.lemmas.List.{drop-replicate, flat_map_more, length-drop, length-replicate, take_all, take_more}
use Rattle.mbr.specs.Table.{Entry, entry_bytes, table_bytes}
use Rattle.mbr.proofs.ReadBack.{blank, written}

-- the bytes with this many entries
abbrev pub bytes_to : List Entry → ℕ → List ℕ
bytes_to entries i = replicate 446 0 ++ written (take i entries)

-- one entry more was written
pub one_more : (entries : List Entry) (i : ℕ) (before bytes : List ℕ) (d : Entry) → i < length entries
    → bytes ≡ entry_bytes (get_or entries i d) → before ≡ bytes_to entries i → before ++ bytes ≡ bytes_to entries (i + 1)
one_more entries i before bytes d within is so_far =
    ap (λ (xs : List ℕ). xs ++ bytes) so_far ∙ ap (λ (xs : List ℕ). bytes_to entries i ++ xs) is
    ∙ flat_map_more entry_bytes (replicate 446 0) (take i entries) (get_or entries i d)
    ∙ ap (λ (es : List Entry). replicate 446 0 ++ written es) (sym (take_more entries i d within))

-- the zeros of the entries that were not written, cut from those of four
abbrev cut : List Entry → List ℕ
cut entries = take (64 - length entries * 16) (drop (length entries * 16) (replicate 64 0))

cut_blank : (entries : List Entry) → cut entries ≡ blank entries
cut_blank entries =
    let used : ℕ = length entries * 16 in
    let zeros : List ℕ = replicate 64 0 in
    let place : 64 - used ≡ 64 - 16 * length entries = omega arith in
    take_all (64 - used) (drop used zeros) (omega (arith, length-drop used zeros, length-replicate {A = ℕ} 64 0))
    ∙ drop-replicate used 64 0 ∙ ap (λ (n : ℕ). replicate n 0) place

-- then come zeros and the signature
pub ended : (entries : List Entry) (i : ℕ) (before last bytes : List ℕ) → length entries ≤ i → before ≡ bytes_to entries i
    → last ≡ before ++ cut entries → bytes ≡ last ++ 0x55 ∷ 0xAA ∷ [] → bytes ≡ table_bytes entries
ended entries i before last bytes all so_far more signed =
    let code : List ℕ = replicate 446 0 in
    let signature : List ℕ = 0x55 ∷ 0xAA ∷ [] in
    let front : before ≡ code ++ written entries = so_far ∙ ap (λ (es : List Entry). code ++ written es) (take_all i entries all) in
    let both : before ++ cut entries ≡ (code ++ written entries) ++ blank entries =
    ap (λ (xs : List ℕ). xs ++ cut entries) front ∙ ap (λ (xs : List ℕ). (code ++ written entries) ++ xs) (cut_blank entries) in
    signed ∙ ap (λ (xs : List ℕ). xs ++ signature) (more ∙ both)
    ∙ append_assoc (code ++ written entries) (blank entries) signature ∙ append_assoc code (written entries) (blank entries ++ signature)
