-- Two lists, place by place.
use Rattle.script.proofs.Common.{List, [], ◌∷◌, ◌++◌, AllZip}

-- one more pair at the end
pub all_zip_append : {A B : Type 0} (R : A → B → Type 0) (xs : List A) (ys : List B) (x : A) (y : B) → AllZip R xs ys → R x y → AllZip R (xs ++ x ∷ []) (ys ++ y ∷ [])
all_zip_append R [] [] x y h r = (r, tt)
all_zip_append R [] (b ∷ ys) x y h r = absurd h
all_zip_append R (a ∷ xs) [] x y h r = absurd h
all_zip_append R (a ∷ xs) (b ∷ ys) x y h r = (h.0, all_zip_append R xs ys x y h.1 r)
