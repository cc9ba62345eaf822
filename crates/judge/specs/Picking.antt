-- One item of a list, and the others.
use Rattle.std.specs.Prelude.{Bool, List, [], ◌∷◌, Option, Some, None, map, if◌then◌else◌}

-- the value, where the test holds
abbrev pub only : {X : Type 0} → Bool → X → Option X
only test x = if test then Some x else None

-- an item, and the others with one more in front
abbrev pub behind : {X : Type 0} → X → Option (X × List X) → Option (X × List X)
behind x None = None
behind x (Some (y, ys)) = Some (y, x ∷ ys)

-- the first item that passes, and the others
abbrev pub take_out : {X : Type 0} → (X → Bool) → List X → Option (X × List X)
take_out test [] = None
take_out test (x ∷ xs) = if test x then Some (x, xs) else behind x (take_out test xs)

-- an item beside others, with one more in front of these
abbrev pub past : {X : Type 0} → X → X × List X → X × List X
past x (y, ys) = (y, x ∷ ys)

-- each item with the others
abbrev pub choices : {X : Type 0} → List X → List (X × List X)
choices [] = []
choices (x ∷ xs) = (x, xs) ∷ map (past x) (choices xs)
