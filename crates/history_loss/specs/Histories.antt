-- What clients saw of a service over several sessions, between which power was lost or its process ended, and what explains it.
use Rattle.std.specs.Prelude.{◌≡◌, ℕ, false, List, [], ◌∷◌, Option, All}
use Rattle.machine.specs.declared.Label.TheVariants.{Call, Answer}
use Rattle.machine.specs.Rules.{Rules}
use Rattle.machine.specs.State.{opening}
use Rattle.machine_laws.specs.Reached.{AreWhole}
use Rattle.history_laws.specs.History.{IsOfService, of_service}
use Rattle.loss.specs.Moved.{held_on}
use Rattle.loss.specs.Sessions.{Line, Told, Lost, Ended, Moment, Sessions}

-- of the lines of a trace those that clients see: calls and answers, and that a session ended
abbrev pub seen_of : List Line → List Line
seen_of [] = []
seen_of (Lost ∷ lines) = Lost ∷ seen_of lines
seen_of (Ended ∷ lines) = Ended ∷ seen_of lines
seen_of (Told (Call number q) ∷ lines) = Told (Call number q) ∷ seen_of lines
seen_of (Told (Answer number status informed bytes) ∷ lines) = Told (Answer number status informed bytes) ∷ seen_of lines
seen_of (Told _ ∷ lines) = seen_of lines

-- no pause and no removal
abbrev pub IsLineOfService : Line → Type 0
IsLineOfService (Told label) = IsOfService label
IsLineOfService Lost = Unit {0}
IsLineOfService Ended = Unit {0}

-- the rules of a service whose sectors stand in a table of what each may hold, and not in the machine
abbrev pub of_storage : Rules → ℕ → ℕ → Option ℕ → Rules
of_storage rules depth max_transfer window = record (of_service rules depth max_transfer window) { faithful = false }

-- some sessions over this disk have just these calls, answers, losses and ends
pub record IsExplained (rules : Rules) (disk : ℕ → List ℕ) (history : List Line) : Type 0 where
  pub depth : ℕ
  pub max_transfer : ℕ
  pub window : Option ℕ
  -- the machine has arrays, of which nothing is read
  pub arrays : List (List (List ℕ))
  pub whole : AreWhole rules arrays
  pub lines : List Line
  pub last : Moment
  pub sessions : Sessions (of_storage rules depth max_transfer window) (record { machine = opening arrays; table = held_on disk }) lines last
  pub of_service : All IsLineOfService lines
  pub seen : seen_of lines ≡ history
