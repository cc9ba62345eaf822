-- What was seen of one register, and its schedules.
use Rattle.std.specs.Prelude.{◌≡◌, ◌≢◌, ◌⊎◌, ℕ, List, [], ◌∷◌, ◌++◌, All, Contains, take}
use Rattle.register.specs.declared.Sight.{Sight}
use Rattle.register.specs.declared.Sight.TheVariants.{Write, Read, Done, Failed}

-- what is seen, or an operation's effect, with the value that the register has then
pub data Event : Type 0 where
  Seen : (sight : Sight) → Event
  Effect : (number value : ℕ) → Event

-- what was seen, the first of it first, of events of which the last comes first
abbrev pub seen_of : List Event → List Sight
seen_of [] = []
seen_of (Seen sight ∷ past) = seen_of past ++ sight ∷ []
seen_of (Effect number value ∷ past) = seen_of past

-- the value after these events
abbrev pub value_after : ℕ → List Event → ℕ
value_after start [] = start
value_after start (Seen sight ∷ past) = value_after start past
value_after start (Effect number value ∷ past) = value

-- the operation of this number has not ended by it
abbrev pub IsNoEnd : ℕ → Event → Type 0
IsNoEnd n (Seen (Done number)) = number ≢ n
IsNoEnd n (Seen (Failed number)) = number ≢ n
IsNoEnd n _ = Unit {0}

abbrev pub IsNoEffect : ℕ → Event → Type 0
IsNoEffect n (Effect number value) = number ≢ n
IsNoEffect n (Seen sight) = Unit {0}

-- bytes that were not recorded, in whose place none stand: they may have been any
abbrev pub unrecorded : ℕ
unrecorded = 0

-- a write of the value was called, or one whose bytes were not recorded
abbrev pub IsWritten : List Event → ℕ → ℕ → Type 0
IsWritten past number value = Contains past (Seen (Write number value)) ⊎ Contains past (Seen (Write number unrecorded))

-- the same of a read
abbrev pub IsRead : List Event → ℕ → ℕ → Type 0
IsRead past number value = Contains past (Seen (Read number value)) ⊎ Contains past (Seen (Read number unrecorded))

-- a write of the value was called, or a read of it while the register has it
abbrev pub IsCalledFor : ℕ → List Event → ℕ → ℕ → Type 0
IsCalledFor start past number value = IsWritten past number value ⊎ (IsRead past number value × (value ≡ value_after start past))

-- an operation takes effect once, behind its call and before its end
pub record TakesEffect (start : ℕ) (past : List Event) (number value : ℕ) : Type 0 where
  pub called : IsCalledFor start past number value
  pub awaits : All (IsNoEnd number) past
  pub once : All (IsNoEffect number) past

-- the event may come after these
abbrev pub May : ℕ → List Event → Event → Type 0
May start past (Effect number value) = TakesEffect start past number value
May start past (Seen (Done number)) = (value : ℕ) × Contains past (Effect number value)
May start past (Seen _) = Unit {0}

-- each event may come after those before it
abbrev pub IsSchedule : ℕ → List Event → Type 0
IsSchedule start [] = Unit {0}
IsSchedule start (event ∷ past) = May start past event × IsSchedule start past

-- some schedule explains what was seen
pub record HasSchedule (start : ℕ) (sights : List Sight) : Type 0 where
  pub events : List Event
  pub in_turn : IsSchedule start events
  pub seen : seen_of events ≡ sights

-- what has a schedule has one at each moment before
abbrev pub PrefixesAreScheduled : Type 0
PrefixesAreScheduled = (start : ℕ) (sights : List Sight) (count : ℕ) → HasSchedule start sights → HasSchedule start (take count sights)
