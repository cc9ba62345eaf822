-- What the judge makes of each sight.
use Rattle.std.specs.Prelude.{◌≡◌, ◌<◌, ◌≤◌, ℕ, ◌==◌, Bool, true, false, List, [], ◌∷◌, ◌++◌, length, slice_index_or, if◌then◌else◌}
use Rattle.std.specs.List.{list_any}
use Rattle.register.specs.declared.Sight.{Sight}
use Rattle.register.specs.declared.Sight.TheVariants.{Write, Read, Done, Failed}
use Rattle.register_judge.specs.declared.states.Waiting.{Waiting}
use Rattle.register_judge.specs.declared.states.State.{State}
use Rattle.register_judge.specs.declared.keeping.Register.{Register}
use Rattle.register_judge.specs.inside.States.{Form, form_of, forms_of, called, bounds_of, EndsAll}
use Rattle.register_judge.specs.inside.Covering.{Prunes}

abbrev pub is_this : ℕ → ℕ → Bool
is_this n other = other == n

-- the others, behind these
abbrev pub without : ℕ → List ℕ → List ℕ → List ℕ
without n left [] = left
without n left (other ∷ others) = if is_this n other then without n left others else without n (left ++ other ∷ []) others

-- nothing is open, and there is one state
pub record Begins (start : ℕ) (register : Register) : Type 0 where
  pub numbers : register.numbers.items ≡ []
  pub last : register.last ≡ 0
  pub states : forms_of register.states.items ≡ record { any = false; value = start; waits = [] } ∷ []

-- the same but for the memory that it takes
pub record IsAlike (old new : Register) : Type 0 where
  pub numbers : new.numbers.items ≡ old.numbers.items
  pub last : new.last ≡ old.last
  pub states : forms_of new.states.items ≡ forms_of old.states.items

-- each state behind the call
pub record EachCalled (o : Waiting) (old new : List State) : Type 0 where
  pub same_length : length new ≡ length old
  pub calls : (k : ℕ) (d : State) → k < length old → form_of (slice_index_or new k d) ≡ called o (form_of (slice_index_or old k d))

-- up to one of them
pub record CalledBelow (o : Waiting) (index : ℕ) (old new : List State) : Type 0 where
  pub same_length : length new ≡ length old
  pub below : (k : ℕ) (d : State) → k < index → k < length old → form_of (slice_index_or new k d) ≡ called o (form_of (slice_index_or old k d))
  pub above : (k : ℕ) (d : State) → index ≤ k → k < length old → slice_index_or new k d ≡ slice_index_or old k d

-- each state behind the call, and those where it tells what the register has
pub record AllCalled (o : Waiting) (old new : List State) : Type 0 where
  pub each : List State
  pub called : EachCalled o old each
  pub all : forms_of new ≡ forms_of each ++ bounds_of o (forms_of old)

-- an operation is open, and waits or has taken effect in each state
pub record Calls (old : Register) (number : ℕ) (writes : Bool) (value : ℕ) (new : Register) : Type 0 where
  pub newer : old.last < number
  pub last : new.last ≡ number
  pub numbers : new.numbers.items ≡ old.numbers.items ++ number ∷ []
  pub states : AllCalled (record { number = number; writes = writes; value = value; is_old = false }) old.states.items new.states.items

-- what an end leaves, without what is needless
pub record Left (must : Bool) (number : ℕ) (old new : List Form) : Type 0 where
  pub ended : List Form
  pub mid : List Form
  pub ends : EndsAll must number old [] ended
  pub once : Prunes ended mid
  pub twice : Prunes mid new

-- an operation is open no more
pub record EndsAt (old : Register) (number : ℕ) (must : Bool) (new : Register) : Type 0 where
  pub was_open : list_any (is_this number) old.numbers.items ≡ true
  pub last : new.last ≡ old.last
  pub numbers : new.numbers.items ≡ without number [] old.numbers.items
  pub states : Left must number (forms_of old.states.items) (forms_of new.states.items)

abbrev pub Sees : Register → Sight → Register → Type 0
Sees old (Write number value) new = Calls old number true value new
Sees old (Read number value) new = Calls old number false value new
Sees old (Done number) new = EndsAt old number true new
Sees old (Failed number) new = EndsAt old number false new
