-- What a step tells, in order: in memory, or for contracts alone.
use Rattle.std.specs.Prelude.{◌≡◌, ℕ, Bool, List, [], ◌∷◌, Option, Some, None, if◌then◌else◌}
use Rattle.io_manager.specs.declared.Answer.{Answer}

-- what was told, the places that there are for it, and whether memory keeps it, and its bytes
pub record QueueView (X : Type 0) : Type 0 where
  pub items : List X
  pub places : ℕ
  pub keeps : Bool
  pub keeps_bytes : Bool

-- other things may be told; there are as many places, and memory keeps them as before
abbrev pub SameQueue : {X : Type 0} → QueueView X → QueueView X → Type 0
SameQueue old new = (new.places ≡ old.places) × (new.keeps ≡ old.keeps) × (new.keeps_bytes ≡ old.keeps_bytes)

-- the earliest item leaves, as memory has it
abbrev pub TakesFirst : {X : Type 0} → (X → X) → List X → Option X → List X → Type 0
TakesFirst shown old None new = (old ≡ []) × (new ≡ old)
TakesFirst {X} shown old (Some item) new = (first : X) × (old ≡ first ∷ new) × (item ≡ shown first)

-- the answer as memory has it in its label
abbrev pub answer_in_memory : Bool → Answer → Answer
answer_in_memory keeps answer = record answer { bytes = if keeps then answer.bytes else [] }
