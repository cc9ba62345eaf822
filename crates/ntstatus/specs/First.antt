-- The first of several cases that fits.
use Rattle.std.specs.Prelude.{Bool, List, [], ◌∷◌, Option, Some, None, if◌then◌else◌}

-- the answer of a case, where its test holds
abbrev pub when : {X : Type 0} → Bool → X → Option X
when test answer = if test then Some answer else None

-- the first answer that the list has, if any
abbrev pub first_some : {X : Type 0} → List (Option X) → Option X
first_some [] = None
first_some (Some answer ∷ rest) = Some answer
first_some (None ∷ rest) = first_some rest
