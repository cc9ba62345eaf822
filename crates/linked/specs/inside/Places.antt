-- What is done to a place.
use Rattle.std.specs.Prelude.{◌≡◌, ℕ, Option, Some, None}
use Rattle.linked.specs.declared.spots.Node.{Node}

module _ {T : Type 0} where
  -- the entry of a place, if there is one, is linked on to the one behind
  abbrev pub SetsAfter : Option (Node T) → Option ℕ → Option (Node T) → Type 0
  SetsAfter None after new = new ≡ None
  SetsAfter (Some e) after new = new ≡ Some (record e { after = after })

  -- the entry of a place, if there is one, is linked back to the one before
  abbrev pub SetsBefore : Option (Node T) → Option ℕ → Option (Node T) → Type 0
  SetsBefore None before new = new ≡ None
  SetsBefore (Some e) before new = new ≡ Some (record e { before = before })
