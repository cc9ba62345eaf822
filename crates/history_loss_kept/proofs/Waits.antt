-- What waits behind a turn, and behind a call.
use Rattle.std.proofs.Common.{◌≡◌, ◌<◌, ◌≤◌, inl, inr, ℕ, suc, ◌+◌, ◌==◌, ◌&&◌, ◌||◌, Bool, true, false, cond, not, nat_lt, List, [], ◌∷◌, ◌++◌, refl, ◌∙◌, ap, map, arith}
use Rattle.std.specs.Prelude.{if◌then◌else◌}
use Rattle.std.specs.List.{filter, list_any}
use Rattle.std.proofs.lemmas.Bool.{eqb-true}
use Rattle.std.proofs.lemmas.Bool.Decides.{leb_tells}
use Rattle.loss.specs.Held.{IsOneOf}
use Rattle.register_loss.specs.declared.What.TheVariants.{Flush}
use Rattle.register_loss.specs.declared.Open.{Open}
use Rattle.register_loss.specs.declared.Turn.{Turn}
use Rattle.register_loss.specs.declared.Turn.TheVariants.{Acts, Fails}
use Rattle.register_loss.specs.Schedules.{above, is_other, is_same, is_unmet, is_write, left_by, marked, unmet}
use Rattle.register_loss_search.proofs.Listing.{of_filter, of_map}

-- NUMBERS

pub lt_true : (n m : ℕ) → n < m → nat_lt n m ≡ true
lt_true n m h = elim (leb_tells (suc n) m) [ inl under ↦ under.0 | inr over ↦ let late : m < suc n = over.1 in absurd (omega (arith, h, late)) ]

pub lt_false : (n m : ℕ) → m ≤ n → nat_lt n m ≡ false
lt_false n m h = elim (leb_tells (suc n) m) [ inl under ↦ let low : suc n ≤ m = under.1 in absurd (omega (arith, h, low)) | inr over ↦ over.0 ]

pub above_is : (n next : ℕ) → next ≤ n + 1 → above n next ≡ n + 1
above_is n next h = elim (leb_tells next n) [
  | inl under ↦ ap (λ (b : Bool). cond b (n + 1) next) under.0
  | inr over ↦ let late : n < next = over.1 in let e : next ≡ n + 1 = omega (arith, h, late) in ap (λ (b : Bool). cond b (n + 1) next) over.0 ∙ e
]

pub unequal : (n m : ℕ) → (n ≡ m → ⊥) → (n == m) ≡ false
unequal n m h = by (n == m) refl
  where
    by : (b : Bool) → (n == m) ≡ b → (n == m) ≡ false
    by true e = absurd (h (eqb-true n m e))
    by false e = e

-- FILTERS

filter_cond : {X : Type 0} (x : X) (rest xs : List X) (b : Bool) → b ≡ true → rest ≡ xs → cond b (x ∷ rest) rest ≡ x ∷ xs
filter_cond x rest xs true e same = ap (λ ys. x ∷ ys) same
filter_cond x rest xs false e same = absurd (cc (e))

pub filter_all : {X : Type 0} (p : X → Bool) (xs : List X) → ((x : X) → IsOneOf x xs → p x ≡ true) → filter p xs ≡ xs
filter_all p [] h = refl
filter_all p (x ∷ xs) h = filter_cond x (filter p xs) xs (p x) (h x (inl refl)) (filter_all p xs (λ y there. h y (inr there)))

append_cond : {X : Type 0} (x : X) (ys front back : List X) (b : Bool) → ys ≡ front ++ back → cond b (x ∷ ys) ys ≡ cond b (x ∷ front) front ++ back
append_cond x ys front back true e = ap (λ zs. x ∷ zs) e
append_cond x ys front back false e = e

pub filter_append : {X : Type 0} (p : X → Bool) (xs ys : List X) → filter p (xs ++ ys) ≡ filter p xs ++ filter p ys
filter_append p [] ys = refl
filter_append p (x ∷ xs) ys = append_cond x (filter p (xs ++ ys)) (filter p xs) (filter p ys) (p x) (filter_append p xs ys)

pub map_append : {X Y : Type 0} (f : X → Y) (xs ys : List X) → map f (xs ++ ys) ≡ map f xs ++ map f ys
map_append f [] ys = refl
map_append f (x ∷ xs) ys = ap (λ zs. f x ∷ zs) (map_append f xs ys)

pub none_of : {X : Type 0} (p : X → Bool) (xs : List X) → ((x : X) → IsOneOf x xs → p x ≡ false) → list_any p xs ≡ false
none_of p [] h = refl
none_of p (x ∷ xs) h = by (p x) (h x (inl refl)) (none_of p xs (λ y there. h y (inr there)))
  where
    by : (b : Bool) → b ≡ false → list_any p xs ≡ false → (b || list_any p xs) ≡ false
    by true e rest = absurd (cc (e))
    by false e rest = rest

-- WHAT IS LEFT

pub marked_number : (b : Bool) (o : Open) → (if b then record o { failed = true } else o).number ≡ o.number
marked_number true o = refl
marked_number false o = refl

pub marked_what : (b : Bool) (o : Open) → (if b then record o { failed = true } else o).what ≡ o.what
marked_what true o = refl
marked_what false o = refl

-- it waited before, but may have failed since
pub record Was (o : Open) (waits : List Open) : Type 0 where
  pub one : Open
  pub has : IsOneOf one waits
  pub number : o.number ≡ one.number
  pub what : o.what ≡ one.what

pub was_there : (o : Open) (waits : List Open) → IsOneOf o waits → Was o waits
was_there o waits h = record { one = o; has = h; number = refl; what = refl }

left_was : (turn : Turn) (x o : Open) (waits : List Open) → IsOneOf o (left_by turn x waits) → Was o waits
left_was Acts x o waits h = was_there o waits (of_filter (is_other x) o waits h).0
left_was Fails x o waits h =
    let p : (y : Open) × IsOneOf y waits × (o ≡ marked x y) = of_map (marked x) o waits h in record {
      one = p.0;
      has = p.1;
      number = ap (λ (y : Open). y.number) p.2 ∙ marked_number (is_same x p.0) p.0;
      what = ap (λ (y : Open). y.what) p.2 ∙ marked_what (is_same x p.0) p.0;
    }

pub turn_was : (now : List ℕ) (turn : Turn) (x o : Open) (waits : List Open) → IsOneOf o (unmet now (left_by turn x waits)) → Was o waits
turn_was now turn x o waits h = left_was turn x o waits (of_filter (is_unmet now) o (left_by turn x waits) h).0

-- A FLUSH MORE

abbrev pub flush : ℕ → Open
flush n = record { number = n; what = Flush; failed = false }

other_flush : (n : ℕ) (x : Open) → x.number < n → is_same x (flush n) ≡ false
other_flush n x low = ap (λ b. b && (if is_write x.what then false else true)) (unequal n x.number (λ e. absurd (omega (arith, low, e))))

push_left : (turn : Turn) (x : Open) (waits : List Open) (n : ℕ) → is_same x (flush n) ≡ false → left_by turn x (waits ++ flush n ∷ []) ≡ left_by turn x waits ++ flush n ∷ []
push_left Acts x waits n e = filter_append (is_other x) waits (flush n ∷ []) ∙ ap (λ (b : Bool). filter (is_other x) waits ++ cond (not b) (flush n ∷ []) []) e
push_left Fails x waits n e = map_append (marked x) waits (flush n ∷ []) ∙ ap (λ (b : Bool). map (marked x) waits ++ (if b then record { number = n; what = Flush; failed = true } else flush n) ∷ []) e

pub push_unmet : (now : List ℕ) (turn : Turn) (x : Open) (waits : List Open) (n : ℕ) → x.number < n → unmet now (left_by turn x (waits ++ flush n ∷ [])) ≡ unmet now (left_by turn x waits) ++ flush n ∷ []
push_unmet now turn x waits n low = ap (unmet now) (push_left turn x waits n (other_flush n x low)) ∙ filter_append (is_unmet now) (left_by turn x waits) (flush n ∷ [])
