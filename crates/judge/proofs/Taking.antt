-- An item taken out at its place.
use Rattle.std.proofs.Common.{◌≡◌, ◌<◌, ◌≤◌, ℕ, zero, suc, ◌+◌, Bool, true, false, List, [], ◌∷◌, Some, None, refl, sym, ap, subst, arith, length, get_or, cond, ltb}
use Rattle.std.specs.Prelude.{if◌then◌else◌, not}
use Rattle.std.specs.List.{position, position_or_len, remove}
use Rattle.std.proofs.lemmas.Bool.{ltb-true, ltb-false}
use Rattle.judge.specs.Picking.{behind, take_out}

module _ {X : Type 0} (test : X → Bool) where
  at_place : (xs : List X) (x : X) (n : ℕ) → n ≡ position_or_len test xs → n < length xs → x ≡ get_or xs n x → take_out test xs ≡ Some (x, remove xs n)
  at_place [] x n e low is = absurd (omega arith)
  at_place (y ∷ ys) x n e low is = by (test y) n e low is (λ k. at_place ys x k)
    where
      by : (b : Bool) (n : ℕ) → n ≡ cond (not b) (1 + position_or_len test ys) 0 → n < length (y ∷ ys) → x ≡ get_or (y ∷ ys) n x
          → ((k : ℕ) → k ≡ position_or_len test ys → k < length ys → x ≡ get_or ys k x → take_out test ys ≡ Some (x, remove ys k))
          → (if b then Some (y, ys) else behind y (take_out test ys)) ≡ Some (x, remove (y ∷ ys) n)
      by true zero e low is again = ap (λ z. Some (z, ys)) (sym is)
      by true (suc k) e low is again = absurd (omega arith)
      by false zero e low is again = absurd (omega arith)
      by false (suc k) e low is again = let found : take_out test ys ≡ Some (x, remove ys k) = again k (omega arith) (omega arith) is in rw found refl

  nowhere : (xs : List X) → length xs ≤ position_or_len test xs → take_out test xs ≡ None
  nowhere [] h = refl
  nowhere (y ∷ ys) h = by (test y) h (nowhere ys)
    where
      by : (b : Bool) → suc (length ys) ≤ cond (not b) (1 + position_or_len test ys) 0 → (length ys ≤ position_or_len test ys → take_out test ys ≡ None)
          → (if b then Some (y, ys) else behind y (take_out test ys)) ≡ None
      by true h again = absurd (omega arith)
      by false h again = let none : take_out test ys ≡ None = again (omega arith) in rw none refl

  pub taken : (xs : List X) (i : ℕ) (x : X) → Some i ≡ position test xs → x ≡ get_or xs i x → take_out test xs ≡ Some (x, remove xs i)
  taken xs i x e is = by (ltb (position_or_len test xs) (length xs)) refl e
    where
      by : (b : Bool) → ltb (position_or_len test xs) (length xs) ≡ b → Some i ≡ cond b (Some (position_or_len test xs)) None → take_out test xs ≡ Some (x, remove xs i)
      by true low e = let same : i ≡ position_or_len test xs = cc (e) in at_place xs x i same (subst (λ n. n < length xs) (sym same) (ltb-true _ _ low)) is
      by false low e = cc (e)

  pub not_taken : (xs : List X) → None ≡ position test xs → take_out test xs ≡ None
  not_taken xs e = by (ltb (position_or_len test xs) (length xs)) refl e
    where
      by : (b : Bool) → ltb (position_or_len test xs) (length xs) ≡ b → None ≡ cond b (Some (position_or_len test xs)) None → take_out test xs ≡ None
      by true low e = cc (e)
      by false low e = nowhere xs (ltb-false _ _ low)

  -- the first place that passes, or the place behind all
  short : (xs : List X) → position_or_len test xs ≤ length xs
  short [] = omega arith
  short (y ∷ ys) = by (test y) (short ys)
    where
      by : (b : Bool) → position_or_len test ys ≤ length ys → cond (not b) (1 + position_or_len test ys) 0 ≤ suc (length ys)
      by true h = omega arith
      by false h = omega arith

  pub found_place : (xs : List X) (i : ℕ) → Some i ≡ position test xs → i ≡ position_or_len test xs
  found_place xs i e = by (ltb (position_or_len test xs) (length xs)) e
    where
      by : (b : Bool) → Some i ≡ cond b (Some (position_or_len test xs)) None → i ≡ position_or_len test xs
      by true e = cc (e)
      by false e = cc (e)

  pub found_within : (xs : List X) (i : ℕ) → Some i ≡ position test xs → i ≤ length xs
  found_within xs i e = omega (arith, found_place xs i e, short xs)

  pub last_place : (xs : List X) → None ≡ position test xs → length xs ≡ position_or_len test xs
  last_place xs e = by (ltb (position_or_len test xs) (length xs)) refl e
    where
      by : (b : Bool) → ltb (position_or_len test xs) (length xs) ≡ b → None ≡ cond b (Some (position_or_len test xs)) None → length xs ≡ position_or_len test xs
      by true low e = cc (e)
      by false low e = omega (arith, ltb-false _ _ low, short xs)
