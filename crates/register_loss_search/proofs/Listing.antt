-- Membership of lists.
use Rattle.std.proofs.Common.{◌≡◌, ◌⊎◌, inl, inr, Bool, true, false, cond, ◌||◌, List, [], ◌∷◌, ◌++◌, refl, sym, ◌∙◌, ap, map}
use Rattle.std.specs.List.{filter, list_any}
use Rattle.loss.specs.Held.{IsOneOf}

pub one_left : {X : Type 0} (x : X) (xs ys : List X) → IsOneOf x xs → IsOneOf x (xs ++ ys)
one_left x [] ys h = absurd h
one_left x (y ∷ xs) ys (inl e) = inl e
one_left x (y ∷ xs) ys (inr h) = inr (one_left x xs ys h)

pub one_right : {X : Type 0} (x : X) (xs ys : List X) → IsOneOf x ys → IsOneOf x (xs ++ ys)
one_right x [] ys h = h
one_right x (y ∷ xs) ys h = inr (one_right x xs ys h)

pub one_either : {X : Type 0} (x : X) (xs ys : List X) → IsOneOf x (xs ++ ys) → IsOneOf x xs ⊎ IsOneOf x ys
one_either x [] ys h = inr h
one_either x (y ∷ xs) ys (inl e) = inl (inl e)
one_either x (y ∷ xs) ys (inr h) = elim (one_either x xs ys h) [ inl a ↦ inl (inr a) | inr b ↦ inr b ]

pub one_map : {X Y : Type 0} (f : X → Y) (x : X) (xs : List X) → IsOneOf x xs → IsOneOf (f x) (map f xs)
one_map f x [] h = absurd h
one_map f x (y ∷ xs) (inl e) = inl (ap f e)
one_map f x (y ∷ xs) (inr h) = inr (one_map f x xs h)

pub of_map : {X Y : Type 0} (f : X → Y) (y : Y) (xs : List X) → IsOneOf y (map f xs) → (x : X) × IsOneOf x xs × (y ≡ f x)
of_map f y [] h = absurd h
of_map f y (x ∷ xs) (inl e) = (x, inl refl, e)
of_map f y (x ∷ xs) (inr h) = let found : (z : _) × IsOneOf z xs × (y ≡ f z) = of_map f y xs h in (found.0, inr found.1, found.2)

-- FILTERS

filter_by : {X : Type 0} (p : X → Bool) (x y : X) (rest : List X) (xs : List X) (b : Bool) → p y ≡ b → (IsOneOf x rest → IsOneOf x xs × (p x ≡ true)) → IsOneOf x (cond b (y ∷ rest) rest) → IsOneOf x (y ∷ xs) × (p x ≡ true)
filter_by p x y rest xs true e back (inl same) = (inl same, ap p same ∙ e)
filter_by p x y rest xs true e back (inr h) = let found : IsOneOf x xs × (p x ≡ true) = back h in (inr found.0, found.1)
filter_by p x y rest xs false e back h = let found : IsOneOf x xs × (p x ≡ true) = back h in (inr found.0, found.1)

pub of_filter : {X : Type 0} (p : X → Bool) (x : X) (xs : List X) → IsOneOf x (filter p xs) → IsOneOf x xs × (p x ≡ true)
of_filter p x [] h = absurd h
of_filter p x (y ∷ xs) h = filter_by p x y (filter p xs) xs (p y) refl (of_filter p x xs) h

kept_by : {X : Type 0} (x y : X) (rest : List X) (b : Bool) → IsOneOf x rest → IsOneOf x (cond b (y ∷ rest) rest)
kept_by x y rest true h = inr h
kept_by x y rest false h = h

first_by : {X : Type 0} (x y : X) (rest : List X) (b : Bool) → b ≡ true → x ≡ y → IsOneOf x (cond b (y ∷ rest) rest)
first_by x y rest true e same = inl same
first_by x y rest false e same = absurd (cc (e))

pub in_filter : {X : Type 0} (p : X → Bool) (x : X) (xs : List X) → IsOneOf x xs → p x ≡ true → IsOneOf x (filter p xs)
in_filter p x [] h e = absurd h
in_filter p x (y ∷ xs) (inl same) e = first_by x y (filter p xs) (p y) (sym (ap p same) ∙ e) same
in_filter p x (y ∷ xs) (inr h) e = kept_by x y (filter p xs) (p y) (in_filter p x xs h e)

-- ANY

or_cases : (a b : Bool) → a || b ≡ true → (a ≡ true) ⊎ (b ≡ true)
or_cases true b h = inl refl
or_cases false b h = inr h

or_left : (a b : Bool) → a ≡ true → a || b ≡ true
or_left true b h = refl
or_left false b h = absurd (cc (h))

or_right : (a b : Bool) → b ≡ true → a || b ≡ true
or_right true b h = refl
or_right false b h = h

pub any_of : {X : Type 0} (f : X → Bool) (x : X) (xs : List X) → IsOneOf x xs → f x ≡ true → list_any f xs ≡ true
any_of f x [] h e = absurd h
any_of f x (y ∷ xs) (inl is) e = or_left (f y) (list_any f xs) (sym (ap f is) ∙ e)
any_of f x (y ∷ xs) (inr h) e = or_right (f y) (list_any f xs) (any_of f x xs h e)

pub any_from : {X : Type 0} (f : X → Bool) (xs : List X) → list_any f xs ≡ true → (x : X) × IsOneOf x xs × (f x ≡ true)
any_from f [] e = absurd (cc (e))
any_from f (y ∷ xs) e = elim (or_cases (f y) (list_any f xs) e) [
  | inl here ↦ (y, inl refl, here)
  | inr there ↦ let found : (x : _) × IsOneOf x xs × (f x ≡ true) = any_from f xs there in (found.0, inr found.1, found.2)
]
