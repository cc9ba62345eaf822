-- Where an answer waits to be taken.
use Rattle.std.specs.Prelude.{◌≡◌, ◌<◌, ℕ, List, Some, length, slice_get}
use Rattle.io_manager.specs.declared.Answer.{Answer}

-- the answer of this number stands at this place
pub record IsAt (answers : List Answer) (number at : ℕ) : Type 0 where
  pub within : at < length answers
  pub answer : Answer
  pub there : slice_get answers at ≡ Some answer
  pub is_number : answer.number ≡ number
