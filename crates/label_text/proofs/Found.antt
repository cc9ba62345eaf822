-- What follows where something was found.
use Rattle.std.proofs.Common.{◌≡◌, Bool, List, [], ◌∷◌, ℕ, Option, Some, None, ap, cond, drop, false, true, refl, slice_get}
use Rattle.std.specs.Option.{option_and_then, option_map}
use Rattle.label_text.specs.inside.Reading.{at_end}

pub then_some_of : {A B : Type 0} (f : A → Option B) (found : Option A) (y : B) → option_and_then f found ≡ Some y → (x : A) × (found ≡ Some x) × (f x ≡ Some y)
then_some_of f None y h = absurd (cc (h))
then_some_of f (Some x) y h = (x, refl, h)

pub map_some : {A B : Type 0} (f : A → B) (found : Option A) (y : B) → option_map f found ≡ Some y → (x : A) × (found ≡ Some x) × (f x ≡ y)
map_some f None y h = absurd (cc (h))
map_some f (Some x) y h = (x, refl, cc (h))

pub if_some : {A : Type 0} (test : Bool) (x : Option A) (y : A) → cond test x None ≡ Some y → (test ≡ true) × (x ≡ Some y)
if_some true x y h = (refl, h)
if_some false x y h = absurd (cc (h))

pub if_none : {A : Type 0} (test : Bool) (x : Option A) (y : A) → cond test None x ≡ Some y → (test ≡ false) × (x ≡ Some y)
if_none true x y h = absurd (cc (h))
if_none false x y h = (refl, h)

-- at the last word
pub end_some : {A : Type 0} (words : List (List ℕ)) (x : Option A) (y : A) → at_end words x ≡ Some y → (words ≡ []) × (x ≡ Some y)
end_some [] x y h = (refl, h)
end_some (word ∷ words) x y h = absurd (cc (h))

-- the first word, and those behind it
pub first_is : (words : List (List ℕ)) (word : List ℕ) → slice_get words 0 ≡ Some word → words ≡ word ∷ drop 1 words
first_is [] word h = absurd (cc (h))
first_is (first ∷ words) word h = ap (λ w. w ∷ words) (cc (h))
