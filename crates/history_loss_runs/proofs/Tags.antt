-- A tag is free while fewer pieces are out than there are tags.
use Rattle.std.proofs.Common.{◌≡◌, ◌<◌, ◌≤◌, ◌⊎◌, inl, inr, ℕ, zero, suc, List, [], ◌∷◌, refl, sym, ◌∙◌, ap, subst, arith, length}
use Rattle.std.specs.Prelude.{All, Any, Contains, IsPermutation}
use Rattle.std.specs.List.{remove}
use Rattle.std.proofs.lemmas.Bool.{cases_eq, cases_lt}
use Rattle.std.proofs.lemmas.List.Sorted.{IsPermutation-remove, Contains-permutation, length_permutation}
use Rattle.std.proofs.lemmas.List.Elements.{All-nil, All-cons}
use Rattle.machine.specs.State.{Piece}
use Rattle.machine.specs.Sending.{HasOtherTag, HasTag, IsLowestFreeTag}

any_or_none : (tag : ℕ) (ps : List Piece) → Any (HasTag tag) ps ⊎ All (HasOtherTag tag) ps
any_or_none tag [] = inr (All-nil (HasOtherTag tag))
any_or_none tag (p ∷ ps) = elim (cases_eq p.tag tag) [
  | inl same ↦ inl (0, p, omega arith, refl, same)
  | inr other ↦ elim (any_or_none tag ps) [
    | inl found ↦ inl (suc found.0, found.1, further found.2, found.3, found.4)
    | inr none ↦ inr (All-cons (HasOtherTag tag) p ps other none)
  ]
]
  where
    further : {k n : ℕ} → k < n → suc k < suc n
    further low = omega arith

-- as many pieces as tags that are taken
taken : (n : ℕ) (ps : List Piece) → ((k : ℕ) → k < n → Any (HasTag k) ps) → n ≤ length ps
taken zero ps all = omega arith
taken (suc n) ps all =
    let last : Any (HasTag n) ps = all n (omega arith) in
    let perm : IsPermutation ps (last.1 ∷ remove ps last.0) = IsPermutation-remove ps last.0 last.1 last.2 (sym last.3) in
    let fewer : n ≤ length (remove ps last.0) = taken n (remove ps last.0) (λ k low. among last.1 (remove ps last.0) k last.4 low (Contains-permutation _ _ (all k (omega arith)).1 perm ((all k (omega arith)).0, (all k (omega arith)).2, (all k (omega arith)).3)) (all k (omega arith)).4) in
    let one : suc (length (remove ps last.0)) ≡ length ps = length_permutation ps (last.1 ∷ remove ps last.0) perm in
    omega (arith, fewer, one)
  where
    among : (p : Piece) (rest : List Piece) (k : ℕ) → p.tag ≡ n → k < n → {q : Piece} → Contains (p ∷ rest) q → q.tag ≡ k → Any (HasTag k) rest
    among p rest k last low {q} (zero, within, is) tag = let same : p ≡ q = is in let e : n ≡ k = sym last ∙ ap (λ (x : Piece). x.tag) same ∙ tag in absurd (omega arith)
    among p rest k last low {q} (suc j, within, is) tag = (j, q, omega arith, is, tag)

-- the lowest free tag below this one, or all of them are taken
lowest_below : (n : ℕ) (ps : List Piece) → ((tag : ℕ) × (tag < n) × All (HasOtherTag tag) ps × ((lower : ℕ) → lower < tag → Any (HasTag lower) ps)) ⊎ ((k : ℕ) → k < n → Any (HasTag k) ps)
lowest_below zero ps = inr (λ k low. absurd (omega arith))
lowest_below (suc n) ps = elim (lowest_below n ps) [
  | inl found ↦ inl (found.0, more found.1, found.2, found.3)
  | inr all ↦ elim (any_or_none n ps) [
    | inl here ↦ inr (λ k low. at k low here all)
    | inr free ↦ inl (n, omega arith, free, all)
  ]
]
  where
    more : {k : ℕ} → k < n → k < suc n
    more low = omega arith

    at : (k : ℕ) → k < suc n → Any (HasTag n) ps → ((k : ℕ) → k < n → Any (HasTag k) ps) → Any (HasTag k) ps
    at k low here all = elim (cases_lt k n) [ inl less ↦ all k less | inr past ↦ let same : n ≡ k = omega arith in subst (λ m. Any (HasTag m) ps) same here ]

pub lowest_free : (depth : ℕ) (ps : List Piece) → length ps < depth → (tag : ℕ) × IsLowestFreeTag depth ps tag
lowest_free depth ps room = elim (lowest_below depth ps) [
  | inl found ↦ (found.0, record { within = found.1; free = found.2; lowest = found.3 })
  | inr all ↦ let most : depth ≤ length ps = taken depth ps all in absurd (omega arith)
]
