-- What a search makes of each sight, and that it is exact.
use Rattle.std.specs.Prelude.{◌≡◌, ◌↔◌, ℕ, List, [], ◌∷◌, ◌++◌}
use Rattle.loss.specs.Held.{IsOneOf}
use Rattle.register_loss.specs.declared.Turn.{Turn}
use Rattle.register_loss.specs.declared.Sight.{Sight}
use Rattle.register_loss.specs.Schedules.{Event, HasSchedule, Register, Leads, Turns, behind, opening, seen_of}
use Rattle.register_loss_search.specs.Covering.{IsKept, Prunes}

-- what a sight makes of all of these
abbrev pub behind_all : Sight → List Register → List Register
behind_all sight [] = []
behind_all sight (r ∷ rs) = behind sight r ++ behind_all sight rs

-- turns lead there from one of these
pub record Grows (from : List Register) (f : Register) : Type 0 where
  pub first : Register
  pub has : IsOneOf first from
  pub events : List Event
  pub leads : Leads first events f
  pub unseen : seen_of events ≡ []

-- these and what turns make of them
pub record Closes (from all : List Register) : Type 0 where
  pub begun : (g : Register) → IsOneOf g from → IsKept all g
  pub grown : (f : Register) → IsOneOf f all → Grows from f
  pub closed : (f : Register) → IsOneOf f all → (turn : Turn) (g : Register) → Turns turn f g → IsKept all g

-- some of the registers behind a sight, that cover all, with what turns make of them
pub record Sees (old : List Register) (sight : Sight) (new : List Register) : Type 0 where
  pub all : List Register
  pub closes : Closes (behind_all sight old) all
  pub prunes : Prunes all new

-- sights of which the last comes first, in their order
abbrev pub in_order : List Sight → List Sight
in_order [] = []
in_order (sight ∷ past) = in_order past ++ sight ∷ []

-- what is kept behind these sights, of which the last comes first
abbrev pub Searched : ℕ → List Sight → List Register → Type 0
Searched start [] kept = kept ≡ opening start ∷ []
Searched start (sight ∷ past) kept = (old : List Register) × Searched start past old × Sees old sight kept

-- sights have a schedule exactly where something is kept behind them
abbrev pub SearchIsExact : Type 0
SearchIsExact = (start : ℕ) (past : List Sight) (kept : List Register) → Searched start past kept → HasSchedule start (in_order past) ↔ (kept ≡ [] → ⊥)
