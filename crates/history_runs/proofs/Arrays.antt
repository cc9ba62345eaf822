-- One sector of the arrays, read and put in.
use Rattle.std.proofs.Common.{◌≡◌, ◌<◌, ◌≤◌, ◌⊎◌, inl, inr, ℕ, ◌+◌, ◌-◌, List, [], ◌∷◌, Some, refl, sym, ◌∙◌, ap, subst, arith, length}
use Rattle.std.specs.Prelude.{slice_get, slice_set, slice_range}
use Rattle.std.proofs.lemmas.Bool.{cases_eq, cases_lt, cases_order}
use Rattle.std.proofs.lemmas.List.{get_or-set_same, get_or-set_other, get_or_past}
use Rattle.std.proofs.lemmas.Option.{slice_get_within}
use Rattle.sector.specs.Splice.{splice}
use Rattle.sector.proofs.Splicing.{range_apart}
use Rattle.machine.specs.Sending.{array_at}
use Rattle.machine_laws.proofs.Chunks.{drop_is}
use Rattle.machine_laws.proofs.Splicing.{first_of, splice_inside}

-- a sector that is there, as a range
pub one_of : (array : List (List ℕ)) (i : ℕ) (sector : List ℕ) → slice_get array i ≡ Some sector → sector ∷ [] ≡ slice_range array i (i + 1)
one_of array i sector there =
    let width : i + 1 - i ≡ 1 = omega arith in
    rw (width, drop_is i array sector there) refl

pub array_there : (arrays : List (List (List ℕ))) (p i : ℕ) (sector : List ℕ) → slice_get (array_at arrays p) i ≡ Some sector → p < length arrays
array_there arrays p i sector there =
    elim (cases_lt p (length arrays)) [
      | inl low ↦ low
      | inr past ↦ let none : array_at arrays p ≡ [] = get_or_past arrays p [] past in absurd (no_item i (rw none at there))
    ]
  where
    no_item : (i : ℕ) → slice_get {X = List ℕ} [] i ≡ Some sector → ⊥
    no_item i e = cc (e)

module _ (arrays : List (List (List ℕ))) (p i : ℕ) (old sector : List ℕ) (there : slice_get (array_at arrays p) i ≡ Some old) where
  abbrev pub put_sector : List (List (List ℕ))
  put_sector = slice_set arrays p (splice (array_at arrays p) i (sector ∷ []))

  fits : i + 1 ≤ length (array_at arrays p)
  fits = let low : i < length (array_at arrays p) = slice_get_within (array_at arrays p) i old there in omega arith

  array_is : array_at put_sector p ≡ splice (array_at arrays p) i (sector ∷ [])
  array_is = get_or-set_same arrays p _ [] (array_there arrays p i old there)

  pub put_here : slice_get (array_at put_sector p) i ≡ Some sector
  put_here =
      let none : i + 0 ≡ i = omega arith in
      ap (λ a. slice_get a i) array_is ∙ ap (λ j. slice_get (splice (array_at arrays p) i (sector ∷ [])) j) (sym none) ∙ splice_inside (array_at arrays p) i (sector ∷ []) 0 fits (omega arith)

  pub put_beside : (p' i' : ℕ) → ((p' ≡ p) × (i' ≡ i) → ⊥) → slice_get (array_at put_sector p') i' ≡ slice_get (array_at arrays p') i'
  put_beside p' i' other =
      elim (cases_eq p' p) [
        | inl same ↦ subst (λ n. slice_get (array_at put_sector n) i' ≡ slice_get (array_at arrays n) i') (sym same) (
            ap (λ a. slice_get a i') array_is
            ∙ sym (first_of (splice (array_at arrays p) i (sector ∷ [])) i')
            ∙ ap (λ ys. slice_get ys 0) (range_apart (array_at arrays p) i (sector ∷ []) i' 1 fits (beside same))
            ∙ first_of (array_at arrays p) i'
            )
        | inr differ ↦ ap (λ a. slice_get a i') (get_or-set_other arrays p p' _ [] differ)
      ]
    where
      beside : p' ≡ p → (i + 1 ≤ i') ⊎ (i' + 1 ≤ i)
      beside same = elim (cases_order i' i) [ inl e ↦ absurd (other (same, e)) | inr (inl below) ↦ inr (omega arith) | inr (inr above) ↦ inl (omega arith) ]
