-- What it is that an entry stands at a place of a history.
use Rattle.std.specs.Prelude.{◌≡◌, ℕ, List, [], ◌∷◌, Some, slice_get}

module _ {E : Type 0} where
  -- the entry of the claim stands at its place, which counts from 0
  abbrev pub StandsIn : List E → ℕ × E → Type 0
  StandsIn history claim = slice_get history claim.0 ≡ Some claim.1

  -- each claim stands in the history
  abbrev pub AllStand : List E → List (ℕ × E) → Type 0
  AllStand history [] = Unit {0}
  AllStand history (claim ∷ claims) = StandsIn history claim × AllStand history claims
