-- What two lists in another order share: take the same item from both, and the others are in another order.
use Rattle.std.proofs.Common.{◌≡◌, ◌≢◌, ◌<◌, ◌⊎◌, inl, inr, ℕ, zero, suc, false, List, [], ◌∷◌, refl, subst, arith, map, length, get_or, set}
use Rattle.std.specs.Prelude.{IsPermutation, All, Contains, eqb}
use Rattle.std.specs.List.{IsDistinct, AllByRecursion, swap}
use Rattle.std.proofs.lemmas.Bool.Decides.{nat_tests}
use Rattle.std.proofs.lemmas.Map.Keys.{IsDistinct-head, IsDistinct-IsPermutation}
use Rattle.std.proofs.lemmas.List.Edits.{swap_is}
use Rattle.std.proofs.lemmas.List.Sorted.{IsPermutation-refl, IsPermutation-sym, IsPermutation-trans, IsPermutation-cons, IsPermutation-middle, IsPermutation-map, IsPermutation-keeps, All-permutation, Contains-permutation}
use Rattle.std.proofs.lemmas.List.Elements.{All-nil, All-cons, All-head, All-tail, All-contains}

-- one of the items changed
pub All-changed : {X : Type 0} (P : X → Type 0) (xs : List X) (x x' : X) (others : List X) → IsPermutation xs (x ∷ others) → All P xs → (P x → P x') → All P (x' ∷ others)
All-changed P xs x x' others p all keeps =
    let first : All P (x ∷ others) = All-permutation P _ _ p all in
    All-cons P x' others (keeps (All-head P x others first)) (All-tail P x others first)

-- x stands in the list, and ys are the others in their order
abbrev pub Splits : {X : Type 0} → X → List X → List X → Type 0
Splits x ys [] = ⊥
Splits {X} x ys (z ∷ zs) = (x ≡ z) × (ys ≡ zs) ⊎ ((ws : List X) × (ys ≡ z ∷ ws) × Splits x ws zs)

splits_first : {X : Type 0} (x : X) (ys zs : List X) → Splits x ys zs → IsPermutation zs (x ∷ ys)
splits_first x ys [] h = absurd h
splits_first x ys (z ∷ zs) (inl (e, f)) = rw (e, f) (IsPermutation-refl _)
splits_first x ys (z ∷ zs) (inr (ws, f, h)) =
    rw f (IsPermutation-trans _ _ _ (IsPermutation-cons z _ _ (splits_first x ws zs h)) (IsPermutation-middle (z ∷ []) x ws))

-- the second list has the items of the first, and whichever is taken, the others are alike
record Follows {X : Type 0} (xs ys : List X) : Type 0 where
  whole : IsPermutation xs ys
  others : (x : X) (us : List X) → Splits x us xs → (vs : List X) × Splits x vs ys × IsPermutation us vs

module _ {X : Type 0} where
  follow_none : (xs : List X) → Follows xs xs
  follow_none xs = record { whole = IsPermutation-refl xs; others = λ x us h. (us, h, IsPermutation-refl us) }

  follow_then : (xs ys zs : List X) → Follows xs ys → Follows ys zs → Follows xs zs
  follow_then xs ys zs f g = record {
    whole = IsPermutation-trans _ _ _ f.whole g.whole;
    others = λ x us h. then x us (f.others x us h);
  }
    where
      then : (x : X) (us : List X) → (vs : List X) × Splits x vs ys × IsPermutation us vs → (vs : List X) × Splits x vs zs × IsPermutation us vs
      then x us (vs, h, p) = let next : (ws : List X) × Splits x ws zs × IsPermutation vs ws = g.others x vs h in (next.0, next.1, IsPermutation-trans _ _ _ p next.2)

  follow_cons : (z : X) (xs ys : List X) → Follows xs ys → Follows (z ∷ xs) (z ∷ ys)
  follow_cons z xs ys f = record { whole = IsPermutation-cons z _ _ f.whole; others = below }
    where
      below : (x : X) (us : List X) → Splits x us (z ∷ xs) → (vs : List X) × Splits x vs (z ∷ ys) × IsPermutation us vs
      below x us (inl (e, same)) = (ys, inl (e, refl), rw same f.whole)
      below x us (inr (ws, same, h)) =
          let next : (vs : List X) × Splits x vs ys × IsPermutation ws vs = f.others x ws h in
          (z ∷ next.0, inr (next.0, refl, next.1), rw same (IsPermutation-cons z _ _ next.2))

  follow_turn : (a b : X) (xs : List X) → Follows (a ∷ b ∷ xs) (b ∷ a ∷ xs)
  follow_turn a b xs = record { whole = IsPermutation-middle (a ∷ []) b xs; others = below }
    where
      below : (x : X) (us : List X) → Splits x us (a ∷ b ∷ xs) → (vs : List X) × Splits x vs (b ∷ a ∷ xs) × IsPermutation us vs
      below x us (inl (e, same)) = (b ∷ xs, inr (xs, refl, inl (e, refl)), rw same (IsPermutation-refl _))
      below x us (inr (ws, same, inl (e, more))) = (a ∷ xs, inl (e, refl), rw (same, more) (IsPermutation-refl _))
      below x us (inr (ws, same, inr (vs, more, h))) = (b ∷ a ∷ vs, inr (a ∷ vs, refl, inr (vs, refl, h)), rw (same, more) (IsPermutation-middle (a ∷ []) b vs))

  follow_exchange : (d x : X) (xs : List X) (j : ℕ) → j < length xs → Follows (x ∷ xs) (get_or xs j d ∷ set xs j x)
  follow_exchange d x [] j low = absurd (omega arith)
  follow_exchange d x (y ∷ xs) zero low = follow_turn x y xs
  follow_exchange d x (y ∷ xs) (suc j) low =
      follow_then _ _ _ (follow_turn x y xs)
      (follow_then _ _ _ (follow_cons y _ _ (follow_exchange d x xs j (omega arith))) (follow_turn y (get_or xs j d) (set xs j x)))

  follow_set : (d : X) (xs : List X) (i j : ℕ) → i < length xs → j < length xs → Follows xs (set (set xs i (get_or xs j d)) j (get_or xs i d))
  follow_set d [] i j low high = absurd (omega arith)
  follow_set d (x ∷ xs) zero zero low high = follow_none (x ∷ xs)
  follow_set d (x ∷ xs) zero (suc j) low high = follow_exchange d x xs j (omega arith)
  follow_set d (x ∷ xs) (suc i) zero low high = follow_exchange d x xs i (omega arith)
  follow_set d (x ∷ xs) (suc i) (suc j) low high = follow_cons x _ _ (follow_set d xs i j (omega arith) (omega arith))

  follow_swap : (xs : List X) (i j : ℕ) → i < length xs → j < length xs → Follows xs (swap xs i j)
  follow_swap [] i j low high = absurd (omega arith)
  follow_swap (x ∷ xs) i j low high = subst (λ ys. Follows (x ∷ xs) ys) (swap_is (x ∷ xs) i j x low high) (follow_set x (x ∷ xs) i j low high)

  follow_permutation : (xs ys : List X) → IsPermutation xs ys → Follows xs ys
  follow_permutation xs ys p =
      IsPermutation-keeps xs (λ zs. Follows xs zs) (follow_none xs) (λ zs i j low high f. follow_then _ _ _ f (follow_swap zs i j low high)) ys p

  -- the same item taken from both
  pub IsPermutation-uncons : (x : X) (xs ys : List X) → IsPermutation (x ∷ xs) (x ∷ ys) → IsPermutation xs ys
  IsPermutation-uncons x xs ys p = rest ((follow_permutation (x ∷ xs) (x ∷ ys) p).others x xs (inl (refl, refl)))
    where
      rest : (vs : List X) × Splits x vs (x ∷ ys) × IsPermutation xs vs → IsPermutation xs ys
      rest (vs, inl (e, same), q) = rw (← same) q
      rest (vs, inr (ws, same, h), q) = IsPermutation-trans _ _ _ q (rw same (IsPermutation-sym _ _ (splits_first x ws ys h)))

-- ITEMS WITH NUMBERS OF THEIR OWN

pub flips : (m n : ℕ) → eqb m n ≡ eqb n m
flips m n = grind (arith, nat_tests)

module _ {X : Type 0} (key : X → ℕ) where
  -- with distinct numbers, the others have other numbers
  pub others_differ : (n : ℕ) (xs : List X) → AllByRecursion (λ m. eqb n m ≡ false) (map key xs) → All (λ x. key x ≢ n) xs
  others_differ n [] h = All-nil (λ x. key x ≢ n)
  others_differ n (x ∷ xs) h = All-cons (λ x. key x ≢ n) x xs (λ e. not_self n (key x) h.0 e) (others_differ n xs h.1)
    where
      not_self : (n m : ℕ) → eqb n m ≡ false → m ≡ n → ⊥
      not_self n m h e = grind (arith, nat_tests)

  pub distinct_first : (rs : List X) (x : X) (xs : List X) → IsDistinct eqb (map key rs) → IsPermutation rs (x ∷ xs) → All (λ y. key y ≢ key x) xs
  distinct_first rs x xs d p = others_differ (key x) xs (IsDistinct-head eqb _ _ (IsDistinct-IsPermutation eqb flips _ _ (IsPermutation-map key _ _ p) d))

  -- an item there with the number of the first is the first
  pub is_first : (x : X) (xs : List X) (y : X) → All (λ y. key y ≢ key x) xs → Contains (x ∷ xs) y → key y ≡ key x → x ≡ y
  is_first x xs y differ (zero, low, is) e = is
  is_first x xs y differ (suc k, low, is) e = absurd (All-contains (λ y. key y ≢ key x) xs y differ (k, omega arith, is) e)

  -- one item has each number: who else names it speaks of the same item and the same others
  pub first_unique : (rs : List X) (x y : X) (xs ys : List X) → IsDistinct eqb (map key rs) → IsPermutation rs (x ∷ xs) → IsPermutation rs (y ∷ ys) → key y ≡ key x
      → (x ≡ y) × IsPermutation xs ys
  first_unique rs x y xs ys d p q e =
      let both : IsPermutation (x ∷ xs) (y ∷ ys) = IsPermutation-trans _ _ _ (IsPermutation-sym _ _ p) q in
      let there : Contains (x ∷ xs) y = Contains-permutation _ _ y (IsPermutation-sym _ _ both) (0, omega arith, refl) in
      let same : x ≡ y = is_first x xs y (distinct_first rs x xs d p) there e in
      (same, IsPermutation-uncons y xs ys (subst (λ z. IsPermutation (z ∷ xs) (y ∷ ys)) same both))
