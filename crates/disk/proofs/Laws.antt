-- What the calls of any medium give, one after the other.
use Rattle.std.proofs.Common.{◌≡◌, ℕ, ◌+◌, ◌-◌, ◌≤◌, ◌<◌, ◌⊎◌, inl, inr, List, ◌++◌, length, get_or, take, drop, slice_range, arith, ap, sym, ◌∙◌, length-append}
use Rattle.std.proofs.lemmas.Bool.{cases_lt}
use Rattle.std.proofs.lemmas.List.{length-take-le, take_at, drop_at, get_or_append_left, get_or-append_right, get_or-take, get_or-drop, append_assoc}
use Rattle.std.specs.List.{concat}
use Rattle.sector.specs.declared.Extent.{Extent}
use Rattle.sector.specs.Extents.{IsIn}
use Rattle.sector.specs.Splice.{splice}
use Rattle.sector.proofs.Splicing.{length-splice}
use Rattle.disk.specs.Medium.{MediumView, IsWithin, Writes, bytes_at}

middle-splice : {X : Type 0} → (xs others : List X) (first count : ℕ) → first ≤ length xs → length others ≡ count
    → slice_range (splice xs first others) first (first + count) ≡ others
middle-splice {X} xs others first count within long =
    let rest : List X = drop (first + length others) xs in
    let part : length others ≡ (first + count) - first = omega arith in
    ap (λ (l : List X). take ((first + count) - first) l) (drop_at (take first xs) (others ++ rest) first (length-take-le first xs within))
    ∙ take_at others rest ((first + count) - first) part

others-splice : {X : Type 0} → (xs others : List X) (first k : ℕ) (d : X) → first + length others ≤ length xs
    → (k < first) ⊎ (first + length others ≤ k) → get_or (splice xs first others) k d ≡ get_or xs k d
others-splice {X} xs others first k d within place = elim place [
  | inl before ↦
      let inside : k < length (take first xs) = omega (arith, length-take-le first xs (omega arith)) in
      get_or_append_left (take first xs) (others ++ drop (first + length others) xs) d k inside ∙ get_or-take first xs k d before
  | inr past ↦
      let n : ℕ = first + length others in
      let front : length (take first xs ++ others) ≡ n =
      length-append (take first xs) others ∙ ap (λ (i : ℕ). i + length others) (length-take-le first xs (omega arith)) in
      ap (λ (l : List X). get_or l k d) (sym (append_assoc (take first xs) others (drop n xs)))
      ∙ (get_or-append_right (take first xs ++ others) (drop n xs) n k d front past
      ∙ (get_or-drop n xs (k - n) d ∙ ap (λ (i : ℕ). get_or xs i d) (omega arith)))
]

-- a write replaces sectors, and their number stays
pub as_many : (old new : MediumView) (extent : Extent) (bytes : List ℕ) → IsWithin old extent → Writes old extent bytes new
    → length new.sectors ≡ length old.sectors
as_many old new extent bytes within w =
    ap (λ (view : MediumView). length view.sectors) w.after ∙ length-splice old.sectors extent.first w.moved (omega (arith, within, w.covers))

-- what was written is read
pub read_back : (old new : MediumView) (extent : Extent) (bytes : List ℕ) → IsWithin old extent → Writes old extent bytes new
    → bytes_at new extent ≡ bytes
read_back old new extent bytes within w =
    ap (λ (view : MediumView). bytes_at view extent) w.after
    ∙ (ap concat (middle-splice old.sectors w.moved extent.first extent.count (omega (arith, within)) w.covers) ∙ w.bytes_are)

-- a write changes its extent alone
pub elsewhere : (old new : MediumView) (extent : Extent) (bytes : List ℕ) → IsWithin old extent → Writes old extent bytes new
    → (sector : ℕ) (d : List ℕ) → (IsIn sector extent → ⊥) → get_or new.sectors sector d ≡ get_or old.sectors sector d
elsewhere old new extent bytes within w sector d outside =
    ap (λ (view : MediumView). get_or view.sectors sector d) w.after
    ∙ others-splice old.sectors w.moved extent.first sector d (omega (arith, within, w.covers))
    (elim (cases_lt sector extent.first) [
      | inl before ↦ inl before
      | inr after ↦ elim (cases_lt sector (extent.first + extent.count)) [
        | inl inside ↦ absurd (outside (after, inside))
        | inr past ↦ inr (omega (arith, w.covers))
      ]
    ])
