-- Whose parts they are, by their places.
use Rattle.std.specs.Prelude.{eqb}
use Rattle.class_disk.proofs.Common.{ℕ, ◌+◌, List, [], ◌∷◌, ◌++◌, subst, arith, length, PartId, AreOwnedFrom}
use Rattle.std.specs.List.{IsDistinct}
use Rattle.class_disk.specs.declared.parts.Part.{Part}

pub owned_split : (owners : List PartId) (slot first : ℕ) (xs ys : List Part) → AreOwnedFrom owners slot first (xs ++ ys)
    → AreOwnedFrom owners slot first xs × AreOwnedFrom owners slot (first + length xs) ys
owned_split owners slot first [] ys h = (tt, subst (λ n. AreOwnedFrom owners slot n ys) (omega arith) h)
owned_split owners slot first (x ∷ xs) ys h =
    let r = owned_split owners slot (first + 1) xs ys h.1 in
    ((h.0, r.0), subst (λ n. AreOwnedFrom owners slot n ys) (omega arith) r.1)

pub owned_joined : (owners : List PartId) (slot first : ℕ) (xs ys : List Part) → AreOwnedFrom owners slot first xs
    → AreOwnedFrom owners slot (first + length xs) ys → AreOwnedFrom owners slot first (xs ++ ys)
owned_joined owners slot first [] ys h k = subst (λ n. AreOwnedFrom owners slot n ys) (omega arith) k
owned_joined owners slot first (x ∷ xs) ys h k = (
  h.0,
  owned_joined owners slot (first + 1) xs ys h.1 (subst (λ n. AreOwnedFrom owners slot n ys) (omega arith) k),
)

-- no two of none are one
pub apart_none : IsDistinct {K = ℕ} eqb []
unfolding IsDistinct
apart_none = tt
