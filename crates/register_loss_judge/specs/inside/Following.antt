-- What holds of a register that is watched.
use Rattle.std.specs.Prelude.{◌≡◌, ℕ, List, []}
use Rattle.register_loss.specs.declared.Sight.{Sight}
use Rattle.register_loss.specs.Schedules.{HasSchedule, Register}
use Rattle.register_loss_search.specs.Searching.{Searched, Sees, in_order}
use Rattle.register_loss_judge.specs.declared.observed.SoFar.{SoFar}
use Rattle.register_loss_judge.specs.declared.observed.SoFar.TheVariants.{Passed, Refused, Undecided}

-- it took these sights, and has a state
pub record IsGoing (start : ℕ) (states : List Register) (sights : List Sight) : Type 0 where
  pub past : List Sight
  pub is : in_order past ≡ sights
  pub searched : Searched start past states
  pub some : states ≡ [] → ⊥

abbrev pub Keeps : ℕ → List Register → List Sight → SoFar → Type 0
Keeps start states sights Passed = IsGoing start states sights
Keeps start states sights Refused = HasSchedule start sights → ⊥
Keeps start states sights Undecided = Unit {0}

-- what becomes of a register that had a state, and now has one or none
abbrev pub Goes : List Register → Sight → List Register → SoFar → Type 0
Goes old sight new Passed = Sees old sight new × (new ≡ [] → ⊥)
Goes old sight new Refused = Sees old sight new × (new ≡ [])
Goes old sight new Undecided = Unit {0}

-- the same from what is known before: what is refused or undecided stays so
abbrev pub GoesOn : SoFar → List Register → Sight → List Register → SoFar → Type 0
GoesOn Passed old sight new after = Goes old sight new after
GoesOn Refused old sight new after = after ≡ Refused
GoesOn Undecided old sight new after = after ≡ Undecided
