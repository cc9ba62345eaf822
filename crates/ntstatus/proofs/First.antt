-- Cases that don't fit.
use Rattle.std.proofs.Common.{◌≡◌, Bool, true, false, List, ◌∷◌, Option, None, refl}
use Rattle.ntstatus.specs.First.{when, first_some}

-- none fits: not the first, and none of the rest
pub none_first : {X : Type 0} (b : Bool) (answer : X) (rest : List (Option X)) → first_some (when b answer ∷ rest) ≡ None → (b ≡ false) × (first_some rest ≡ None)
none_first true answer rest h = cc (h)
none_first false answer rest h = (refl, h)
