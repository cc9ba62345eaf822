-- Membership of lists.
use Rattle.std.proofs.Common.{◌≡◌, ◌<◌, ◌⊎◌, inl, inr, ℕ, zero, suc, ◌==◌, ◌||◌, Bool, true, false, cond, List, [], ◌∷◌, ◌++◌, Option, Some, None, refl, ◌∙◌, ap, subst, arith, length}
use Rattle.std.specs.Prelude.{Contains, find, if◌then◌else◌}
use Rattle.std.proofs.lemmas.Bool.{eqb-true}
use Rattle.register_judge.specs.inside.States.{with_some, gather}

-- RECURSIVELY

abbrev pub Has : {X : Type 0} → List X → X → Type 0
Has [] x = ⊥
Has (y ∷ ys) x = (y ≡ x) ⊎ Has ys x

pub has_left : {X : Type 0} (xs ys : List X) (x : X) → Has xs x → Has (xs ++ ys) x
has_left [] ys x h = absurd h
has_left (y ∷ xs) ys x (inl e) = inl e
has_left (y ∷ xs) ys x (inr h) = inr (has_left xs ys x h)

pub has_right : {X : Type 0} (xs ys : List X) (x : X) → Has ys x → Has (xs ++ ys) x
has_right [] ys x h = h
has_right (y ∷ xs) ys x h = inr (has_right xs ys x h)

pub has_either : {X : Type 0} (xs ys : List X) (x : X) → Has (xs ++ ys) x → Has xs x ⊎ Has ys x
has_either [] ys x h = inr h
has_either (y ∷ xs) ys x (inl e) = inl (inl e)
has_either (y ∷ xs) ys x (inr h) = elim (has_either xs ys x h) [ inl a ↦ inl (inr a) | inr b ↦ inr b ]

pub has_last : {X : Type 0} (xs : List X) (y x : X) → Has (xs ++ y ∷ []) x → Has xs x ⊎ (y ≡ x)
has_last xs y x h = elim (has_either xs (y ∷ []) x h) [ inl a ↦ inl a | inr b ↦ elim b [ inl e ↦ inr e | inr none ↦ absurd none ] ]

pub has_new : {X : Type 0} (xs : List X) (y : X) → Has (xs ++ y ∷ []) y
has_new xs y = has_right xs (y ∷ []) y (inl refl)

pub contains_has : {X : Type 0} (xs : List X) (x : X) → Contains xs x → Has xs x
contains_has [] x (k, low, is) = absurd (omega arith)
contains_has (y ∷ xs) x (zero, low, is) = inl is
contains_has (y ∷ xs) x (suc k, low, is) = inr (contains_has xs x (k, fewer low, is))
  where
    fewer : suc k < length (y ∷ xs) → k < length xs
    fewer h = omega arith

-- GATHERED

pub some_kept : {Y : Type 0} (ys : List Y) (m : Option Y) (y : Y) → Has ys y → Has (with_some ys m) y
some_kept ys None y h = h
some_kept ys (Some z) y h = has_left ys (z ∷ []) y h

pub some_new : {Y : Type 0} (ys : List Y) (m : Option Y) (y : Y) → m ≡ Some y → Has (with_some ys m) y
some_new ys m y e = rw e (has_new ys y)

pub some_from : {Y : Type 0} (ys : List Y) (m : Option Y) (y : Y) → Has (with_some ys m) y → Has ys y ⊎ (m ≡ Some y)
some_from ys None y h = inl h
some_from ys (Some z) y h = elim (has_last ys z y h) [ inl a ↦ inl a | inr same ↦ inr (ap Some same) ]

pub some_if : {Y : Type 0} (b : Bool) (y : Y) → b ≡ true → (if b then Some y else None) ≡ Some y
some_if b y e = rw e refl

module _ {X Y : Type 0} (f : X → Option Y) where
  -- what an item gives
  abbrev pub Gives : List X → Y → Type 0
  Gives xs y = (x : X) × Has xs x × (f x ≡ Some y)

  pub gather_kept : (ys : List Y) (xs : List X) (y : Y) → Has ys y → Has (gather f ys xs) y
  gather_kept ys [] y h = h
  gather_kept ys (x ∷ xs) y h = gather_kept (with_some ys (f x)) xs y (some_kept ys (f x) y h)

  pub gather_there : (ys : List Y) (xs : List X) (x : X) (y : Y) → Has xs x → f x ≡ Some y → Has (gather f ys xs) y
  gather_there ys [] x y h e = absurd h
  gather_there ys (z ∷ xs) x y (inl same) e = gather_kept (with_some ys (f z)) xs y (some_new ys (f z) y (ap f same ∙ e))
  gather_there ys (z ∷ xs) x y (inr h) e = gather_there (with_some ys (f z)) xs x y h e

  pub gather_from : (ys : List Y) (xs : List X) (y : Y) → Has (gather f ys xs) y → Has ys y ⊎ Gives xs y
  gather_from ys [] y h = inl h
  gather_from ys (x ∷ xs) y h = elim (gather_from (with_some ys (f x)) xs y h) [
    | inl there ↦ elim (some_from ys (f x) y there) [ inl a ↦ inl a | inr e ↦ inr (x, inl refl, e) ]
    | inr given ↦ inr (given.0, inr given.1, given.2)
  ]

-- FOUND

module _ {X : Type 0} (test : X → Bool) where
  found_by : (x : X) (xs : List X) (y : X) (b : Bool) → test x ≡ b → (find test xs ≡ Some y → Has xs y × (test y ≡ true)) → cond b (Some x) (find test xs) ≡ Some y → Has (x ∷ xs) y × (test y ≡ true)
  found_by x xs y true is rest e = let same : x ≡ y = cc (e) in (inl same, subst (λ z. test z ≡ true) same is)
  found_by x xs y false is rest e = let found : Has xs y × (test y ≡ true) = rest e in (inr found.0, found.1)

  pub found_has : (xs : List X) (y : X) → find test xs ≡ Some y → Has xs y × (test y ≡ true)
  found_has [] y e = absurd (cc (e))
  found_has (x ∷ xs) y e = found_by x xs y (test x) refl (found_has xs y) e

  none_by : (x : X) (xs : List X) (y : X) (b : Bool) → test x ≡ b → (find test xs ≡ None → Has xs y → test y ≡ false) → cond b (Some x) (find test xs) ≡ None → Has (x ∷ xs) y → test y ≡ false
  none_by x xs y true is rest e h = absurd (cc (e))
  none_by x xs y false is rest e (inl same) = subst (λ z. test z ≡ false) same is
  none_by x xs y false is rest e (inr h) = rest e h

  pub found_none : (xs : List X) (y : X) → find test xs ≡ None → Has xs y → test y ≡ false
  found_none [] y e h = absurd h
  found_none (x ∷ xs) y e h = none_by x xs y (test x) refl (found_none xs y) e h

-- BOOLEANS

pub or_false : (a b : Bool) → (a || b) ≡ false → (a ≡ false) × (b ≡ false)
or_false true b e = cc (e)
or_false false b e = (refl, e)

pub differ_false : (a b : ℕ) → (a ≡ b → ⊥) → (a == b) ≡ false
differ_false a b other = by (a == b) refl
  where
    by : (t : Bool) → (a == b) ≡ t → t ≡ false
    by true e = absurd (other (eqb-true a b e))
    by false e = refl
