-- What holds no more than another.
use Rattle.std.specs.Prelude.{ℕ, List}
use Rattle.loss.specs.Held.{Held, IsOneOf, left}

-- the one holds nothing that the other may not, now and behind a loss
pub record IsWithin (a b : Held) : Type 0 where
  pub now : (value : List ℕ) → IsOneOf value a.now → IsOneOf value b.now
  pub left : (value : List ℕ) → IsOneOf value (left a) → IsOneOf value (left b)
