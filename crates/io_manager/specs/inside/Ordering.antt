-- Answers by rising numbers.
use Rattle.std.specs.Prelude.{◌≢◌, ℕ, suc, List, [], ◌∷◌, nat_lt, if◌then◌else◌}
use Rattle.io_manager.specs.declared.Answer.{Answer}

-- an answer put behind those with lower numbers
abbrev pub inserted : Answer → List Answer → List Answer
inserted answer [] = answer ∷ []
inserted answer (first ∷ rest) = if nat_lt first.number answer.number then first ∷ inserted answer rest else answer
    ∷ first ∷ rest

-- how many answers, from the first on, have lower numbers
abbrev pub lower_first : ℕ → List Answer → ℕ
lower_first number [] = 0
lower_first number (first ∷ rest) = if nat_lt first.number number then suc (lower_first number rest) else 0

-- an answer of another request
abbrev pub HasOtherNumber : ℕ → Answer → Type 0
HasOtherNumber number answer = answer.number ≢ number
