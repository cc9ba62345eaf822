-- What holds of a register that is watched.
use Rattle.std.specs.Prelude.{◌≡◌, ℕ, List, [], ◌∷◌, ◌++◌}
use Rattle.register.specs.declared.Sight.{Sight}
use Rattle.register.specs.Schedules.{HasSchedule}
use Rattle.register_judge.specs.declared.keeping.Register.{Register}
use Rattle.register_judge.specs.declared.observed.SoFar.{SoFar}
use Rattle.register_judge.specs.declared.observed.SoFar.TheVariants.{Passed, Refused, Undecided}
use Rattle.register_judge.specs.inside.Registers.{Begins, Sees}

-- sights of which the last comes first, in their order
abbrev pub in_order : List Sight → List Sight
in_order [] = []
in_order (sight ∷ past) = in_order past ++ sight ∷ []

-- the register took these sights, the last of which comes first, and had a state before each
abbrev pub Follows : ℕ → List Sight → Register → Type 0
Follows start [] register = Begins start register
Follows start (sight ∷ past) register = (old : Register) × Follows start past old × (old.states.items ≡ [] → ⊥) × Sees old sight register

-- it took these, and has a state
pub record IsGoing (start : ℕ) (register : Register) (sights : List Sight) : Type 0 where
  pub past : List Sight
  pub is : in_order past ≡ sights
  pub follows : Follows start past register
  pub some : register.states.items ≡ [] → ⊥

abbrev pub Keeps : ℕ → Register → List Sight → SoFar → Type 0
Keeps start register sights Passed = IsGoing start register sights
Keeps start register sights Refused = HasSchedule start sights → ⊥
Keeps start register sights Undecided = Unit {0}

-- what becomes of a register that had a state, and now has one or none
abbrev pub Goes : Register → Sight → Register → SoFar → Type 0
Goes old sight new Passed = Sees old sight new × (new.states.items ≡ [] → ⊥)
Goes old sight new Refused = Sees old sight new × (new.states.items ≡ [])
Goes old sight new Undecided = Unit {0}

-- the same from what is known before: what is refused or undecided stays so
abbrev pub GoesOn : SoFar → Register → Sight → Register → SoFar → Type 0
GoesOn Passed old sight new after = Goes old sight new after
GoesOn Refused old sight new after = after ≡ Refused
GoesOn Undecided old sight new after = after ≡ Undecided
