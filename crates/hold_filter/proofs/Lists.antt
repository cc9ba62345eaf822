-- Lists with one item taken out, or found by a recursion.
use Rattle.hold_filter.proofs.Common.{◌≡◌, ◌≢◌, ℕ, zero, suc, List, [], ◌∷◌, ◌++◌, refl, sym, subst, arith, map, All, Any, Contains, IsPermutation, All-nil, All-cons, All-head, All-tail, All-contains, remove, All-permutation, Contains-permutation, IsPermutation-sym, IsPermutation-map, IsPermutation-remove, IsPermutation-trans, IsPermutation-append_right, IsPermutation-to_front, IsPermutation-middle, Lacks, HasNone}

-- an item from between two lists comes to the front
pub to_front : {X : Type 0} (xs before : List X) (x : X) (behind : List X) → xs ≡ before ++ x ∷ behind
    → IsPermutation xs (x ∷ (before ++ behind))
to_front xs before x behind is = subst (λ ys. IsPermutation ys (x ∷ (before ++ behind))) (sym is)
    (IsPermutation-middle before x behind)

pub here_of : {X : Type 0} (P : X → Type 0) (xs before : List X) (x : X) (behind : List X)
    → xs ≡ before ++ x ∷ behind
    → All P xs → P x
here_of P xs before x behind is all =
    All-head P x (before ++ behind) (All-permutation P _ _ (to_front xs before x behind is) all)

pub others_of : {X : Type 0} (P : X → Type 0) (xs before : List X) (x : X) (behind : List X)
    → xs ≡ before ++ x ∷ behind
    → All P xs → All P (before ++ behind)
others_of P xs before x behind is all =
    All-tail P x (before ++ behind) (All-permutation P _ _ (to_front xs before x behind is) all)

-- what holds of all holds of one that is there
pub any_all : {X : Type 0} (P Q : X → Type 0) (xs : List X) → Any P xs → All Q xs → (x : X) × P x × Q x
any_all P Q xs (k, x, low, is, p) all = (x, p, All-contains Q xs x all (k, low, is))

pub any_there : {X : Type 0} (P : X → Type 0) (before : List X) (x : X) (behind : List X) → P x
    → Any P (before ++ x ∷ behind)
any_there P [] x behind p = (0, x, omega arith, refl, p)
any_there P (y ∷ before) x behind p = let a = any_there P before x behind p in
    (suc a.0, a.1, omega (arith, a.2), a.3, a.4)

-- a queue lacks a number, or has none at a spot, in the words of lists
pub lacks_all : {T : Type 0} (number_of : T → ℕ) (number : ℕ) (entries : List (ℕ × T))
    → Lacks number_of number entries
    → All (λ (e : ℕ × T). number_of e.1 ≢ number) entries
lacks_all {T} number_of number [] h = All-nil (λ (e : ℕ × T). number_of e.1 ≢ number)
lacks_all {T} number_of number (e ∷ rest) h = All-cons (λ (e : ℕ × T). number_of e.1 ≢ number) e rest h.0
    (lacks_all number_of number rest h.1)

pub none_all : {T : Type 0} (number_of : T → ℕ) (spot number : ℕ) (entries : List (ℕ × T))
    → HasNone number_of spot number entries → All (λ (e : ℕ × T). e.0 ≡ spot → number_of e.1 ≢ number) entries
none_all {T} number_of spot number [] h = All-nil (λ (e : ℕ × T). e.0 ≡ spot → number_of e.1 ≢ number)
none_all {T} number_of spot number (e ∷ rest) h =
    All-cons (λ (e : ℕ × T). e.0 ≡ spot → number_of e.1 ≢ number) e rest h.0
    (none_all number_of spot number rest h.1)

-- ALL OF A PART

pub All-from_map : {X Y : Type 0} (P : Y → Type 0) (f : X → Y) (xs : List X) → All P (map f xs)
    → All (λ x. P (f x)) xs
All-from_map P f [] h = All-nil (λ x. P (f x))
All-from_map P f (x ∷ xs) h = All-cons (λ y. P (f y)) x xs (All-head P (f x) (map f xs) h)
    (All-from_map P f xs (All-tail P (f x) (map f xs) h))

pub All-first : {X : Type 0} (P : X → Type 0) (xs ys : List X) → All P (xs ++ ys) → All P xs
All-first P [] ys h = All-nil P
All-first P (x ∷ xs) ys h =
    All-cons P x xs (All-head P x (xs ++ ys) h) (All-first P xs ys (All-tail P x (xs ++ ys) h))

pub All-second : {X : Type 0} (P : X → Type 0) (xs ys : List X) → All P (xs ++ ys) → All P ys
All-second P [] ys h = h
All-second P (x ∷ xs) ys h = All-second P xs ys (All-tail P x (xs ++ ys) h)

-- ONE MORE

pub any_first : {X : Type 0} (P : X → Type 0) (x : X) (xs : List X) → P x → Any P (x ∷ xs)
any_first P x xs p = (0, x, omega arith, refl, p)

pub any_behind : {X : Type 0} (P : X → Type 0) (x : X) (xs : List X) → Any P xs → Any P (x ∷ xs)
any_behind P x xs a = (suc a.0, a.1, omega (arith, a.2), a.3, a.4)

-- the last of the third of three lists comes to the front
pub last_of : {X : Type 0} (first second third : List X) (x : X) (more : List X) → more ≡ third ++ x ∷ []
    → IsPermutation (first ++ (second ++ more)) (x ∷ (first ++ (second ++ third)))
last_of first second third x more is =
    subst (λ zs. IsPermutation (first ++ (second ++ zs)) (x ∷ (first ++ (second ++ third)))) (sym is)
    (IsPermutation-trans _ _ _
    (IsPermutation-append_right first _ _
    (IsPermutation-trans _ _ _ (IsPermutation-append_right second _ _ (IsPermutation-to_front third x))
    (IsPermutation-middle second x third))) (IsPermutation-middle first x (second ++ third)))

-- if not the first, then one behind
pub any_rest : {X : Type 0} (P : X → Type 0) (x : X) (xs : List X) → (P x → ⊥) → Any P (x ∷ xs) → Any P xs
any_rest P x xs not_first (zero, y, low, is, p) = absurd (not_first (subst P (sym is) p))
any_rest P x xs not_first (suc k, y, low, is, p) = (k, y, omega (arith, low), is, p)

-- an image that is there is that of an item
pub contains_image : {X Y : Type 0} (f : X → Y) (xs : List X) (y : Y) → Contains (map f xs) y
    → Any (λ x. f x ≡ y) xs
contains_image f [] y (k, low, is) = absurd (omega (arith, low))
contains_image f (x ∷ xs) y (zero, low, is) = any_first (λ z. f z ≡ y) x xs is
contains_image f (x ∷ xs) y (suc k, low, is) =
    any_behind (λ z. f z ≡ y) x xs (contains_image f xs y (k, omega (arith, low), is))

-- an item that is there comes to the front
pub contained_first : {X : Type 0} (xs : List X) (x : X) → Contains xs x
    → (others : List X) × IsPermutation xs (x ∷ others)
contained_first xs x (k, low, is) = (remove xs k, IsPermutation-remove xs k x low (sym is))

-- so does the image of one that is there
pub contains_map : {X Y : Type 0} (f : X → Y) (xs : List X) (x : X) → Contains xs x → Contains (map f xs) (f x)
contains_map f xs x there =
    let front = contained_first xs x there in
    Contains-permutation _ _ (f x) (IsPermutation-sym _ _ (IsPermutation-map f _ _ front.1)) (0, omega arith, refl)

-- one of which something holds
pub any_is : {X : Type 0} (P : X → Type 0) (xs : List X) → Any P xs → (x : X) × Contains xs x × P x
any_is P xs (k, x, low, is, p) = (x, (k, low, is), p)

pub any_of : {X : Type 0} (P : X → Type 0) (xs : List X) (x : X) → Contains xs x → P x → Any P xs
any_of P xs x (k, low, is) p = (k, x, low, is, p)
