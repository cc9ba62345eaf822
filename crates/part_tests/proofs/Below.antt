-- Vacant spots of an empty queue.
use Rattle.std.proofs.Common.{◌≡◌, ℕ, List, [], ◌∷◌, length, arith}
use Rattle.linked.specs.Queue.{IsVacant}

module _ {T : Type 0} where
  pub vacant_in_none : (spot : ℕ) (entries : List (ℕ × T)) → length entries ≡ 0 → IsVacant spot entries
  vacant_in_none spot [] h = tt
  vacant_in_none spot (e ∷ rest) h = absurd (omega arith)
